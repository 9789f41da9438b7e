use Rattle.serde_json.specs.View.{view}
use Rattle.list_json.specs.ListPrinting.{acl_data}
use Rattle.list_json.proofs.Arrays.{one_written}
use Rattle.data_channel.proofs.replies.acl_values.Goals as goal

pub loop-acl-preserved : goal.loop-acl-preserved
loop-acl-preserved c = rw c.in_ok-push.ensures.items (one_written acl_data view c.args.acls.now c.loop-acl.acl-index c.acl-item.result c.loop-acl.values.items _ c.loop-acl-test.true c.acl-item.is c.in_ok-acl_value.ensures c.loop-acl.invariant)
