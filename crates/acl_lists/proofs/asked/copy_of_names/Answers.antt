use Rattle.std.proofs.Common.{◌∙◌}
use Rattle.acl_lists.proofs.Copies.{one_copied}
use Rattle.acl_lists.proofs.asked.copy_of_names.Goals as goal

pub loop-name-preserved : goal.loop-name-preserved
loop-name-preserved c =
    c.in_ok-push.ensures.ok ∙ one_copied c.args.names.now c.loop-name.name-index c.name-item.result c.in_ok-copy.field-0 c.loop-name.copy c.loop-name-test.true c.name-item.is c.in_ok-copy.ensures c.loop-name.invariant
