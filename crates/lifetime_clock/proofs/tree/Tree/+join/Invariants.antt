use Rattle.std.proofs.Common.{◌+◌, length}
use Rattle.lifetime_clock.proofs.tree.Tree.+join.Given as goal

abbrev pub decreases-join : goal.decreases-join
decreases-join l = length l.left + length l.right
