use Rattle.std.proofs.Common.{arith}
use Rattle.dots_registry.proofs.Conditions.{room_outside}
use Rattle.dots_registry.proofs.fitting.has_live_room.Goals as goal

pub returns : goal.returns
returns c = λ entries represents.
    room_outside
    c.args.live.now
    c.domains.result
    entries
    c.args.entry.now
    c.domains.ensures
    (omega (arith, c.if-entry-domains.false))
    c.requires.inside
    represents
