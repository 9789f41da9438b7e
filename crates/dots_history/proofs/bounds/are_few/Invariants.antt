-- the rest of the targets fits what is left exactly where all of them fit
use Rattle.std.proofs.Common.{◌≡◌, nat_le, drop}
use Rattle.acl_lists.specs.declared.limits.TheConstants.{MAX_RESOLVED}
use Rattle.dots_history.specs.Bounds.{prefix_count}
use Rattle.dots_history.proofs.bounds.are_few.Given as goal

abbrev pub invariant-loop-target : goal.invariant-loop-target
invariant-loop-target l =
    nat_le (prefix_count (drop l.target-index l.targets)) l.left ≡ nat_le (prefix_count l.targets) MAX_RESOLVED
