use Rattle.std.proofs.Common.{refl}
use Rattle.std.specs.Prelude.{true}
use Rattle.dots_host.specs.Acts.{owned_of, is_done}
use Rattle.dots_host.proofs.TapeLemmas.{adds_gave}
use Rattle.dots_edge.proofs.file_socket_host.note_given.Goals as goal

pub returns-clause-adds : goal.returns-clause-adds
returns-clause-adds c =
    let log = c.args.log.now.acts in
    adds_gave true true true log log c.after.result.acts (owned_of c.args.out.now) (is_done c.args.sent) refl refl refl c.after.ensures
