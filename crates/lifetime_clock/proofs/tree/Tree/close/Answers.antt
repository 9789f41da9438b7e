use Rattle.std.proofs.Common.{◌∷◌, arith}
use Rattle.lifetime_clock.specs.Tree.{entry_of}
use Rattle.lifetime_clock.proofs.Least.{least_time-append}
use Rattle.lifetime_clock.proofs.tree.Tree.close.Goals as goal

pub invariant_of-result : goal.invariant_of-result
invariant_of-result c = grind (arith, least_time-append c.args.left (entry_of c.args.branch.value ∷ c.args.right), c.min.ensures, c.min-2.ensures, c.least.ensures, c.least-2.ensures)
