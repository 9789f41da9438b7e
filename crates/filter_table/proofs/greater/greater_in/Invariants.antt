-- the greater of the mid found and of those of the rest is the greatest of all
use Rattle.std.proofs.Common.{◌≡◌, drop}
use Rattle.filter_table.specs.Best.{best, greater_of, mid_in}
use Rattle.filter_table.proofs.greater.greater_in.Given as goal

abbrev pub invariant-loop-slot : goal.invariant-loop-slot
invariant-loop-slot l =
    greater_of l.found (best (mid_in l.packet l.rows) (drop l.slot-index l.slots)) ≡ greater_of l.fn.before (best (mid_in l.packet l.rows) l.slots)
