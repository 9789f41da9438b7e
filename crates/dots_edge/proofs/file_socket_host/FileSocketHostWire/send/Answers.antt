use Rattle.std.proofs.Common.{ap, length}
use Rattle.dots_host.specs.Acts.{gave, owned_of, is_done}
use Rattle.dots_edge.proofs.CallLemmas.{restarts_none}
use Rattle.dots_edge.proofs.file_socket_host.FileSocketHostWire.send.Goals as goal

pub returns-clause-leads : goal.returns-clause-leads
returns-clause-leads g c =
    let acts = c.self.inside.log.acts in
    let later = c.note_given.new.log.acts in
    let done = gave (owned_of c.args.out.now) (is_done c.send_by-sent.result) in
    restarts_none c.args.self.now acts later (length acts) (length later) done (ap (λ host. host.calls) c.self.view_is) c.note_given.ensures.adds tt
