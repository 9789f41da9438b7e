-- the place lies within what is left
use Rattle.std.proofs.Common.{◌+◌, ◌≤◌, nat_lt, length}
use Rattle.std.specs.List.{prefix_len}
use Rattle.filter_table.proofs.finding.numbers_below.Given as goal

abbrev pub invariant-loop-size : goal.invariant-loop-size
invariant-loop-size l = record {
  left : 1 ≤ l.size;
  within : l.base + l.size ≤ length l.numbers;
  from : l.base ≤ prefix_len (λ n. nat_lt n l.bound) l.numbers;
  to : prefix_len (λ n. nat_lt n l.bound) l.numbers ≤ l.base + l.size;
}

abbrev pub decreases-loop-size : goal.decreases-loop-size
decreases-loop-size l = l.size
