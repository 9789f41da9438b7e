-- the targets behind make of what there is now what all of them make of the start
use Rattle.std.proofs.Common.{◌≡◌, drop}
use Rattle.dots_history.specs.Reach.{over_targets}
use Rattle.dots_history.proofs.reach.over_targets.Given as goal

abbrev pub invariant-loop-target : goal.invariant-loop-target
invariant-loop-target l = over_targets (drop l.target-index l.targets) l.reaches ≡ over_targets l.targets l.fn.start
