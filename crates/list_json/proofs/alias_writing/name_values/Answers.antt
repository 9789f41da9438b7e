use Rattle.serde_json.specs.View.{view}
use Rattle.serde_json.specs.Data.{string}
use Rattle.list_json.proofs.Arrays.{one_written}
use Rattle.list_json.proofs.alias_writing.name_values.Goals as goal

pub loop-name-preserved : goal.loop-name-preserved
loop-name-preserved c = rw c.in_ok-push-in-Ok.ensures.items (one_written string view c.args.names.now c.loop-name.name-index c.name-item.result c.loop-name.values.items _ c.loop-name-test.true c.name-item.is c.in-Ok.ensures c.loop-name.invariant)
