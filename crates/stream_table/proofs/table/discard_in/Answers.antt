use Rattle.std.proofs.Common.{ap}
use Rattle.std.specs.Prelude.{drop, is_some}
use Rattle.stream_table.specs.Places.{line_of_row, row_with}
use Rattle.stream_table.proofs.Placing.{there_is, set_place, row_within}
use Rattle.stream_table.proofs.table.discard_in.Goals as goal

pub returns : goal.returns
returns g c =
    let rows = c.args.rows.now.items in
    set_place (row_with c.args.place.seat (drop c.args.n)) rows c.args.place.row _ c.discard.new.self
    (there_is rows c.args.place.row c.index_mut.result.now (row_within (line_of_row c.args.place.seat) rows c.args.place.row (ap is_some c.requires.1)) c.index_mut.ensures.value) c.discard.ensures
