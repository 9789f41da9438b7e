use Rattle.stream_table.specs.Places.{line_of_row, row_with}
use Rattle.stream_table.proofs.Placing.{there_is, set_place, row_within}
use Rattle.stream_table.proofs.table.take_in.Goals as goal

pub returns-clause-rows : goal.returns-clause-rows
returns-clause-rows g c =
    let rows = c.args.rows.now.items in
    set_place (row_with c.args.place.seat _) rows c.args.place.row _ c.take.new.self (there_is rows c.args.place.row c.index_mut.result.now (row_within (line_of_row c.args.place.seat) rows c.args.place.row c.requires) c.index_mut.ensures.value) c.take.ensures.row
