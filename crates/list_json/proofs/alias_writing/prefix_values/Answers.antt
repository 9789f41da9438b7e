use Rattle.serde_json.specs.View.{view}
use Rattle.list_json.specs.AliasPrinting.{prefix_data}
use Rattle.list_json.proofs.Arrays.{one_written}
use Rattle.list_json.proofs.alias_writing.prefix_values.Goals as goal

pub loop-prefix-preserved : goal.loop-prefix-preserved
loop-prefix-preserved c = rw c.in_ok-push-in-Ok.ensures.items (one_written prefix_data view c.args.prefixes.now c.loop-prefix.prefix-index c.prefix-item.result c.loop-prefix.values.items _ c.loop-prefix-test.true c.prefix-item.is c.in-Ok.ensures c.loop-prefix.invariant)
