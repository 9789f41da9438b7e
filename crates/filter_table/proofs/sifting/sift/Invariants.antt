-- the ranks before the end are judged, and those that are staying stand at the front
use Rattle.std.proofs.Common.{◌≡◌, ◌+◌, ◌-◌, ◌≤◌, length, drop, vec_capacity}
use Rattle.std.specs.List.{prefix_len}
use Rattle.filter_table.specs.Sifting.{is_outside}
use Rattle.filter_table.proofs.Sifted.{Sifts}
use Rattle.filter_table.proofs.sifting.sift.Given as goal

abbrev pub invariant-loop-end : goal.invariant-loop-end
invariant-loop-end l = record {
  state : Sifts (is_outside l.low l.high) l.fn.ranks l.ranks l.staying l.holes l.numbers l.slots l.levels.items;
  place : l.end ≡ l.staying + l.holes + prefix_len (is_outside l.low l.high) (drop (l.staying + l.holes) l.ranks);
  within : l.end ≤ length l.ranks;
  capacity : vec_capacity l.levels ≡ vec_capacity l.fn.levels;
}

abbrev pub decreases-loop-end : goal.decreases-loop-end
decreases-loop-end l = length l.ranks - l.end
