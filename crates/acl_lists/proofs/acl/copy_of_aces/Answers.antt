use Rattle.std.proofs.Common.{◌∙◌}
use Rattle.acl_lists.proofs.Copies.{one_copied}
use Rattle.acl_lists.proofs.acl.copy_of_aces.Goals as goal

pub loop-ace-preserved : goal.loop-ace-preserved
loop-ace-preserved c =
    c.in_ok-push.ensures.ok ∙ one_copied c.args.aces.now c.loop-ace.ace-index c.ace-item.result c.in_ok-copy.field-0 c.loop-ace.copy c.loop-ace-test.true c.ace-item.is c.in_ok-copy.ensures c.loop-ace.invariant
