use Rattle.std.proofs.Common.{◌<◌, length, set, ap, ◌∙◌, arith}
use Rattle.std.proofs.lemmas.List.Edits.{map_over_more}
use Rattle.stream_table.specs.Lines.{row_emptied}
use Rattle.stream_table.proofs.Placing.{at_any}
use Rattle.stream_table.proofs.table.clear_all.Goals as goal

pub loop-row-preserved : goal.loop-row-preserved
loop-row-preserved g c =
    let within : c.loop-row.row-index < length c.loop-row.rows = omega (arith, c.loop-row-test.true, c.loop-row.auto.rows) in
    ap (set c.loop-row.rows c.loop-row.row-index) c.clear.ensures
    ∙ map_over_more row_emptied _ _ _ _ c.loop-row-test.true c.loop-row.invariant (at_any c.loop-row.rows _ _ within)
