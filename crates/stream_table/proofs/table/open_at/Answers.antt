use Rattle.stream_table.specs.Lines.{row_opened}
use Rattle.stream_table.proofs.Placing.{there_is, set_place}
use Rattle.stream_table.proofs.table.open_at.Goals as goal

pub returns-clause-rows : goal.returns-clause-rows
returns-clause-rows g c =
    let rows = c.args.rows.now.items in
    set_place (row_opened c.args.conn) rows c.args.at _ c.open.new.self (there_is rows c.args.at c.index_mut.result.now c.requires c.index_mut.ensures.value) c.open.ensures.row
