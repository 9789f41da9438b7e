use Rattle.std.proofs.Common.{ap, sym, ◌∙◌}
use Rattle.std.specs.Prelude.{is_some, option_and_then}
use Rattle.session_core.specs.Contacts.{number_in, row_numbered}
use Rattle.session_core.proofs.Placing.{there_is, set_place}
use Rattle.session_core.proofs.sessions.number_at.Goals as goal

pub take_number-requires : goal.take_number-requires
take_number-requires c =
    let row = c.index_mut.result.now in
    let there = there_is c.args.rows.now.items c.args.at row c.requires.at c.index_mut.ensures.value in
    ap (λ o. is_some (option_and_then number_in o)) (sym there) ∙ c.requires.begun

pub returns-clause-number : goal.returns-clause-number
returns-clause-number c =
    let row = c.index_mut.result.now in
    let there = there_is c.args.rows.now.items c.args.at row c.requires.at c.index_mut.ensures.value in
    c.take_number.ensures.number ∙ ap (option_and_then number_in) (sym there)

pub returns-clause-after : goal.returns-clause-after
returns-clause-after c =
    let rows = c.args.rows.now.items in
    let row = c.index_mut.result.now in
    set_place row_numbered rows c.args.at row c.take_number.new.self (there_is rows c.args.at row c.requires.at c.index_mut.ensures.value) c.take_number.ensures.after
