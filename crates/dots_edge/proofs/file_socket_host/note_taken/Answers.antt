use Rattle.std.proofs.Common.{refl}
use Rattle.std.specs.Prelude.{true}
use Rattle.dots_host.specs.Acts.{event_of}
use Rattle.dots_host.proofs.TapeLemmas.{adds_took}
use Rattle.dots_edge.proofs.file_socket_host.note_taken.Goals as goal

pub returns-clause-adds : goal.returns-clause-adds
returns-clause-adds c =
    let log = c.args.log.now.acts in
    adds_took true true true log log c.after.result.acts (event_of c.args.got.what c.args.room.now) c.args.got.at refl refl refl c.after.ensures
