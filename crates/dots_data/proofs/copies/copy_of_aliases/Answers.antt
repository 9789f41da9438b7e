use Rattle.std.proofs.Common.{◌∙◌}
use Rattle.dots_data.proofs.Copying.{one_copied}
use Rattle.dots_data.proofs.copies.copy_of_aliases.Goals as goal

pub loop-alias-preserved : goal.loop-alias-preserved
loop-alias-preserved c =
    c.in_ok-push.ensures.ok ∙ one_copied c.args.aliases.now c.loop-alias.alias-index c.alias-item.result c.in_ok-copy.field-0 c.loop-alias.copy c.loop-alias-test.true c.alias-item.is c.in_ok-copy.ensures c.loop-alias.invariant
