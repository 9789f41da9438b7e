use Rattle.std.proofs.Common.{◌≡◌, ℕ, ◌-◌, ◌<◌, ◌≤◌, false, length, get_or}
use Rattle.std.specs.Prelude.{◌==◌}
use Rattle.data_channel.proofs.place.place_of_first.Given as goal

abbrev pub invariant-loop-at : goal.invariant-loop-at
invariant-loop-at l = (l.at ≤ length l.bytes) × ((k : ℕ) → k < l.at → (get_or l.bytes k 0 == l.wanted) ≡ false)

abbrev pub decreases-loop-at : goal.decreases-loop-at
decreases-loop-at l = length l.bytes - l.at
