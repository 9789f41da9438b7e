use Rattle.std.specs.Prelude.{is_some}
use Rattle.dots_host.specs.declared.act.Act.TheVariants as act
use Rattle.dots_edge.specs.JournalFile.{is_lost}
use Rattle.dots_edge.proofs.CallLemmas.{keeps_by_call, journal_stays}
use Rattle.dots_edge.proofs.file_socket_host.FileSocketHostDisk.write_at.Goals as goal

pub returns-clause-beside : goal.returns-clause-beside
returns-clause-beside g c =
    let journal = c.self.inside.journal in
    let call = act.Wrote c.args.at c.args.bytes.now c.is_written-ok.result in
    let fields = journal_stays _ (is_some journal) (is_lost journal) c.is_written-ok.ensures.journaled c.is_written-ok.ensures.kept in
    keeps_by_call c.args.self.now _ _ call c.self.view_is fields c.after-self-inside.ensures tt
