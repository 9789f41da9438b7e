use Rattle.std.proofs.Common.{◌∙◌}
use Rattle.dots_data.proofs.Copying.{one_copied}
use Rattle.dots_data.proofs.copies.copy_of_acls.Goals as goal

pub loop-acl-preserved : goal.loop-acl-preserved
loop-acl-preserved c =
    c.in_ok-push.ensures.ok ∙ one_copied c.args.acls.now c.loop-acl.acl-index c.acl-item.result c.in_ok-copy.field-0 c.loop-acl.copy c.loop-acl-test.true c.acl-item.is c.in_ok-copy.ensures c.loop-acl.invariant
