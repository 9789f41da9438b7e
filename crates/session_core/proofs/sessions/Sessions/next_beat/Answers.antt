use Rattle.std.proofs.Common.{sym, subst}
use Rattle.session_core.specs.Places.{AreFirsts}
use Rattle.session_core.proofs.sessions.Sessions.next_beat.Goals as goal

pub invariant_of-self : goal.invariant_of-self
invariant_of-self g c = subst (AreFirsts 0 c.self.inside.places.entries) (sym c.beat_among.ensures.peers) c.self.invariant
