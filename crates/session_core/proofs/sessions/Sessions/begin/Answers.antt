use Rattle.std.proofs.Common.{map, ap, sym, subst, ◌∙◌}
use Rattle.std.specs.Prelude.{position}
use Rattle.std.proofs.lemmas.Bool.{false≢true}
use Rattle.session_core.specs.Contacts.{is_of, row_begun, begun_with}
use Rattle.session_core.specs.Places.{row_peer, AreFirsts}
use Rattle.session_core.proofs.Turns.{begun_peer}
use Rattle.session_core.proofs.Placing.{place_within, placed, none_any, peers_placed}
use Rattle.session_core.proofs.sessions.Sessions.begin.Goals as goal

pub begin_at-requires : goal.begin_at-requires
begin_at-requires c = place_within c.args.peer c.in-Some.at c.self.inside.rows.items (ap (position (is_of c.args.peer)) c.self.view_is ∙ sym c.in-Some.ensures)

pub invariant_of-self : goal.invariant_of-self
invariant_of-self c =
    subst (AreFirsts 0 c.self.inside.places.entries) (sym (ap (map row_peer) c.begin_at.ensures ∙ peers_placed c.in-Some.at (row_begun c.args.now) c.self.inside.rows.items (begun_peer c.args.now))) c.self.invariant

pub returns-in-Some : goal.returns-in-Some
returns-in-Some c =
    let rows = c.self.inside.rows.items in
    let found = ap (position (is_of c.args.peer)) c.self.view_is ∙ sym c.in-Some.ensures in
    c.begin_at.ensures ∙ placed c.args.peer c.in-Some.at (row_begun c.args.now) rows found ∙ ap (begun_with c.args.peer c.args.now) c.self.view_is

pub returns-in_default : goal.returns-in_default
returns-in_default c = absurd (false≢true (sym (none_any c.args.peer c.args.self.now (sym c.place.ensures ∙ c.in_default.is)) ∙ c.requires))
