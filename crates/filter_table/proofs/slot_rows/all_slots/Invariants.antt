use Rattle.std.proofs.Common.{◌≡◌, ◌≤◌, vec_capacity, length}
use Rattle.filter_table.proofs.Slots.{below}
use Rattle.filter_table.proofs.slot_rows.all_slots.Given as goal

abbrev pub invariant-loop-slot : goal.invariant-loop-slot
invariant-loop-slot l = below l.slot l.slots.items × (length l.slots.items ≡ l.slot) × (l.room ≤ vec_capacity l.slots)
