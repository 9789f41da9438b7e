-- those before the low place have lower numbers, and those from the high place on have higher ones
use Rattle.std.proofs.Common.{◌≡◌, ◌-◌, ◌<◌, ◌≤◌, ℕ, length}
use Rattle.std.specs.Prelude.{slice_get, Some}
use Rattle.dots_gateway.specs.declared.exchange.Waiting.{Waiting}
use Rattle.dots_gateway.proofs.searching.of_number.Given as goal

abbrev pub invariant-loop-low : goal.invariant-loop-low
invariant-loop-low l = record {
  within : l.high ≤ length l.waiting.items;
  below : (i : ℕ) (k : Waiting) → slice_get l.waiting.items i ≡ Some k → i < l.low → k.exchange.number < l.number;
  above : (i : ℕ) (k : Waiting) → slice_get l.waiting.items i ≡ Some k → l.high ≤ i → l.number < k.exchange.number;
}

abbrev pub decreases-loop-low : goal.decreases-loop-low
decreases-loop-low l = l.high - l.low
