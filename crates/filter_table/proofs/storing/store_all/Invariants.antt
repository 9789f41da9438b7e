-- the rows before the one at hand are stored, and there is room for those that are still to come
use Rattle.std.proofs.Common.{◌≡◌, ◌+◌, ◌<◌, ◌≤◌, ◌^◌, length, vec_capacity}
use Rattle.std.specs.Vec.Iter.{into_iter_items}
use Rattle.filter_table.proofs.Stored.{SoFar}
use Rattle.filter_table.proofs.storing.store_all.Given as goal

abbrev pub invariant-loop-row : goal.invariant-loop-row
invariant-loop-row l = record {
  so_far : SoFar l.place l.next l.fn.own.items (into_iter_items l.row-iterator) l.fn.rows.items l.rows.items l.fn.turns.items l.turns.items l.fn.free.items l.free.items l.ranks.ranks l.marks.ranks;
  enough : length (into_iter_items l.row-iterator) ≤ length l.free.items;
  places : l.next + length (into_iter_items l.row-iterator) < 2 ^ 64;
  rows_number : length l.rows.items ≡ length l.fn.rows.items;
  ranks_fit : length l.ranks.ranks + length (into_iter_items l.row-iterator) ≤ l.ranks.room;
  marks_fit : length l.marks.ranks + length (into_iter_items l.row-iterator) ≤ l.marks.room;
  turns_capacity : vec_capacity l.turns ≡ vec_capacity l.fn.turns;
  free_capacity : vec_capacity l.free ≡ vec_capacity l.fn.free;
  ranks_same : l.ranks.room ≡ l.fn.ranks.room;
  marks_same : l.marks.room ≡ l.fn.marks.room;
}
