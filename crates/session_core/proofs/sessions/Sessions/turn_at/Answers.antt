use Rattle.std.proofs.Common.{◌<◌, map, length, ap, sym, subst, ◌∙◌}
use Rattle.session_core.specs.Beating.{row_turned}
use Rattle.session_core.specs.Places.{row_peer, AreFirsts}
use Rattle.session_core.proofs.Turns.{turned_peer}
use Rattle.session_core.proofs.Placing.{peers_placed}
use Rattle.session_core.proofs.sessions.Sessions.turn_at.Goals as goal

pub turn_at-requires : goal.turn_at-requires
turn_at-requires c = subst (λ rows. c.args.place < length rows) (sym c.self.view_is) c.requires

pub invariant_of-self : goal.invariant_of-self
invariant_of-self c =
    subst (AreFirsts 0 c.self.inside.places.entries)
    (sym (ap (map row_peer) c.turn_at.ensures.after
    ∙ peers_placed c.args.place (row_turned c.args.watched c.args.beat c.args.now) c.self.inside.rows.items (turned_peer c.args.watched c.args.beat c.args.now)))
    c.self.invariant
