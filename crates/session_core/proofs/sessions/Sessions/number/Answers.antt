use Rattle.std.proofs.Common.{refl, map, ap, sym, subst, ◌∙◌}
use Rattle.std.specs.Prelude.{position, is_some}
use Rattle.std.proofs.lemmas.Bool.{false≢true}
use Rattle.session_core.specs.Contacts.{is_of, number_of, row_numbered, numbered}
use Rattle.session_core.specs.Places.{row_peer, AreFirsts}
use Rattle.session_core.proofs.Placing.{place_within, placed, number_placed, number_nowhere, peers_placed}
use Rattle.session_core.proofs.sessions.Sessions.number.Goals as goal

pub number_at-requires : goal.number_at-requires
number_at-requires c =
    let rows = c.self.inside.rows.items in
    let found = ap (position (is_of c.args.peer)) c.self.view_is ∙ sym c.in-Some.ensures in
    record {
      at = place_within c.args.peer c.in-Some.at rows found;
      begun = ap is_some (number_placed c.args.peer c.in-Some.at rows found) ∙ ap (λ rs. is_some (number_of c.args.peer rs)) c.self.view_is ∙ c.requires;
    }

pub invariant_of-self : goal.invariant_of-self
invariant_of-self c =
    subst (AreFirsts 0 c.self.inside.places.entries) (sym (ap (map row_peer) c.number_at.ensures.after ∙ peers_placed c.in-Some.at row_numbered c.self.inside.rows.items (λ row. refl))) c.self.invariant

pub returns-clause-number : goal.returns-clause-number
returns-clause-number c =
    let rows = c.self.inside.rows.items in
    let found = ap (position (is_of c.args.peer)) c.self.view_is ∙ sym c.in-Some.ensures in
    c.number_at.ensures.number ∙ number_placed c.args.peer c.in-Some.at rows found ∙ ap (number_of c.args.peer) c.self.view_is

pub returns-clause-after : goal.returns-clause-after
returns-clause-after c =
    let rows = c.self.inside.rows.items in
    let found = ap (position (is_of c.args.peer)) c.self.view_is ∙ sym c.in-Some.ensures in
    c.number_at.ensures.after ∙ placed c.args.peer c.in-Some.at row_numbered rows found ∙ ap (numbered c.args.peer) c.self.view_is

pub unreachable-requires : goal.unreachable-requires
unreachable-requires c = false≢true (sym (ap is_some (number_nowhere c.args.peer c.args.self.now (sym c.in-None.ensures))) ∙ c.requires)
