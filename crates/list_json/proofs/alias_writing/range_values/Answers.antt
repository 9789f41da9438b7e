use Rattle.serde_json.specs.View.{view}
use Rattle.list_json.specs.AliasPrinting.{range_data}
use Rattle.list_json.proofs.Arrays.{one_written}
use Rattle.list_json.proofs.alias_writing.range_values.Goals as goal

pub loop-range-preserved : goal.loop-range-preserved
loop-range-preserved c = rw c.in_ok-push-in-Ok.ensures.items (one_written range_data view c.args.ranges.now c.loop-range.range-index c.range-item.result c.loop-range.values.items _ c.loop-range-test.true c.range-item.is c.in-Ok.ensures c.loop-range.invariant)
