use Rattle.dots_host.proofs.TapeLemmas.{adds_took}
use Rattle.dots_host.proofs.tape.Tape.record_taken.Goals as goal

pub returns-clause-adds : goal.returns-clause-adds
returns-clause-adds c =
    rw (← c.in-Ok.ensures) (adds_took _ _ _ _ _ _ _ _ c.if-not-make_room.ensures.whole.0 c.log.ensures.whole c.make_room.ensures.acts c.log.ensures.acts)
