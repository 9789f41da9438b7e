use Rattle.std.proofs.Common.{sym, ◌∙◌}
use Rattle.dots_gateway.proofs.Orders.{first_stays}
use Rattle.dots_gateway.proofs.dropping.drop_over.Goals as goal

pub returns-clause-left : goal.returns-clause-left
returns-clause-left c =
    sym (first_stays c.args.now c.loop-waiting.waiting.items c.loop-waiting.invariant.order (sym c.loop-waiting-test.ensures)) ∙ c.loop-waiting.invariant.left
