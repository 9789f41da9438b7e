use Rattle.std.proofs.Common.{◌≡◌, length, vec_len, ap, sym, ◌∙◌, arith}
use Rattle.std.proofs.lemmas.Grind.{common_steps}
use Rattle.std.specs.Prelude.{position, option_and_then}
use Rattle.session_core.specs.Contacts.{is_of, number_in, number_of}
use Rattle.session_core.proofs.Placing.{there_is, place_within, number_placed, number_nowhere}
use Rattle.session_core.proofs.sessions.Sessions.next_number.Goals as goal

pub index-requires : goal.index-requires
index-requires c =
    let less = place_within c.args.peer c.in-Some.at c.self.inside.rows.items (ap (position (is_of c.args.peer)) c.self.view_is ∙ sym c.in-Some.ensures) in
    let size : length c.self.inside.rows.items ≡ vec_len c.self.inside.rows = grind (arith, common_steps) in
    omega (arith, less, size)

pub returns-in-Some : goal.returns-in-Some
returns-in-Some c =
    let rows = c.self.inside.rows.items in
    let found = ap (position (is_of c.args.peer)) c.self.view_is ∙ sym c.in-Some.ensures in
    let there = there_is rows c.in-Some.at c.index.result.now (place_within c.args.peer c.in-Some.at rows found) c.index.ensures in
    c.next_number.ensures
    ∙ ap (option_and_then number_in) (sym there)
    ∙ number_placed c.args.peer c.in-Some.at rows found
    ∙ ap (number_of c.args.peer) c.self.view_is

pub returns-in-None : goal.returns-in-None
returns-in-None c = sym (number_nowhere c.args.peer c.args.self.now (sym c.in-None.ensures))
