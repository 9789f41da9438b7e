-- the slots before the one at hand are there, and room for the others
use Rattle.std.proofs.Common.{◌≡◌, ◌≤◌}
use Rattle.std.specs.Prelude.{vec_capacity}
use Rattle.std.specs.List.{range_with_len}
use Rattle.gateway_agent.proofs.replies.slot_numbers.Given as goal

abbrev pub invariant-loop-slot : goal.invariant-loop-slot
invariant-loop-slot l = (l.numbers.items ≡ range_with_len 0 l.slot) × (l.slots ≤ vec_capacity l.numbers)
