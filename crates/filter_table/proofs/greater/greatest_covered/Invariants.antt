-- the greater of the mid found and of those of the slots still to come is the greatest of all
use Rattle.std.proofs.Common.{◌≡◌}
use Rattle.filter_table.specs.Best.{best, greater_of, mid_in}
use Rattle.filter_table.proofs.greater.greatest_covered.Given as goal

abbrev pub invariant-loop-slots : goal.invariant-loop-slots
invariant-loop-slots l =
    greater_of l.found (best (mid_in l.packet l.rows) l.covering.slots) ≡ best (mid_in l.packet l.rows) l.fn.covering.slots

abbrev pub decreases-loop-slots : goal.decreases-loop-slots
decreases-loop-slots l = l.covering.levels
