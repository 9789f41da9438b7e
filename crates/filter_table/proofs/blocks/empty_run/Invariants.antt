-- with the turns that are still to come, the slots are emptied and given back as they are to be
use Rattle.std.proofs.Common.{◌≡◌, ◌+◌, ◌++◌, drop, map, length, vec_capacity}
use Rattle.filter_table.specs.Blocks.{emptied, slot_of_turn}
use Rattle.filter_table.proofs.blocks.empty_run.Given as goal

abbrev pub invariant-loop-turn : goal.invariant-loop-turn
invariant-loop-turn l = record {
  rows : emptied (drop l.turn-index l.turns) l.rows.items ≡ emptied l.turns l.fn.rows.items;
  free : l.free.items ++ map slot_of_turn (drop l.turn-index l.turns) ≡ l.fn.free.items ++ map slot_of_turn l.turns;
  number : length l.rows.items ≡ length l.fn.rows.items;
  given : length l.free.items ≡ length l.fn.free.items + l.turn-index;
  capacity : vec_capacity l.free ≡ vec_capacity l.fn.free;
}
