use Rattle.std.proofs.Common.{ap, sym, ◌∙◌}
use Rattle.std.specs.Prelude.{Some, option_map}
use Rattle.session_core.specs.Beating.{turn_loses, row_turned}
use Rattle.session_core.proofs.Placing.{there_is, set_place}
use Rattle.session_core.proofs.sessions.turn_at.Goals as goal

pub returns-clause-lost : goal.returns-clause-lost
returns-clause-lost c =
    let row = c.index_mut.result.now in
    let there = there_is c.args.rows.now.items c.args.at row c.requires c.index_mut.ensures.value in
    ap (option_map (turn_loses c.args.watched c.args.beat c.args.now)) there ∙ ap Some (sym c.turn.ensures.lost)

pub returns-clause-after : goal.returns-clause-after
returns-clause-after c =
    let rows = c.args.rows.now.items in
    let row = c.index_mut.result.now in
    set_place (row_turned c.args.watched c.args.beat c.args.now) rows c.args.at row c.turn.new.self (there_is rows c.args.at row c.requires c.index_mut.ensures.value) c.turn.ensures.after
