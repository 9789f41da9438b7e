use Rattle.serde_json.specs.View.{view}
use Rattle.list_json.specs.AliasPrinting.{alias_data}
use Rattle.list_json.proofs.Arrays.{one_written}
use Rattle.data_channel.proofs.replies.alias_values.Goals as goal

pub loop-alias-preserved : goal.loop-alias-preserved
loop-alias-preserved c = rw c.in_ok-push.ensures.items (one_written alias_data view c.args.aliases.now c.loop-alias.alias-index c.alias-item.result c.loop-alias.values.items _ c.loop-alias-test.true c.alias-item.is c.in_ok-alias_value.ensures c.loop-alias.invariant)
