use Rattle.std.proofs.Common.{◌≡◌, length}
use Rattle.host_checks.specs.Ends.{left_among}
use Rattle.host_checks.proofs.ends.left_among.Given as goal

abbrev pub invariant-loop-view : goal.invariant-loop-view
invariant-loop-view l = left_among l.mid l.fn.views ≡ left_among l.mid l.views

abbrev pub decreases-loop-view : goal.decreases-loop-view
decreases-loop-view l = length l.views
