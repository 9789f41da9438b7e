use Rattle.std.proofs.Common.{refl}
use Rattle.dots_host.specs.declared.act.Act.TheVariants as act
use Rattle.dots_edge.proofs.CallLemmas.{keeps_by_call}
use Rattle.dots_edge.proofs.file_socket_host.FileSocketHostDisk.read.Goals as goal

pub returns-clause-beside : goal.returns-clause-beside
returns-clause-beside g c = keeps_by_call c.args.self.now _ _ (act.Read c.is_read-done.result) c.self.view_is refl c.after-self-inside.ensures tt
