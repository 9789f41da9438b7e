use Rattle.std.proofs.Common.{◌≡◌, length, Some}
use Rattle.host_checks.specs.Ends.{longest_from}
use Rattle.host_checks.proofs.ends.longest.Given as goal

abbrev pub invariant-loop-view : goal.invariant-loop-view
invariant-loop-view l = longest_from (Some 0) l.fn.views ≡ longest_from l.left l.views

abbrev pub decreases-loop-view : goal.decreases-loop-view
decreases-loop-view l = length l.views
