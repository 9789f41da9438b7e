-- Where the first line feed of a text stands, when it is looked for from a place on.
use Rattle.std.proofs.Common.{◌≡◌, ◌==◌, ℕ, ◌+◌, ◌-◌, ◌<◌, ◌≤◌, inl, inr, true, List, length, get_or, take, drop, sym, ◌∙◌, ap, arith, length-drop}
use Rattle.std.proofs.lemmas.Bool.{cases_lt}
use Rattle.std.proofs.lemmas.Bool.Decides.{nat_tests}
use Rattle.std.proofs.lemmas.List.{take_all, get_or-drop}
use Rattle.dots_script.specs.Lines.{HasNoFeed}

equal_then : (n : ℕ) → n ≡ 10 → (n == 10) ≡ true
equal_then n is = grind (arith, nat_tests)

then_equal : (n : ℕ) → (n == 10) ≡ true → n ≡ 10
then_equal n is = grind (arith, nat_tests)

-- what stands behind the place
abbrev pub behind : ℕ → List ℕ → List ℕ
behind from bytes = take (length bytes - from) (drop from bytes)

pub behind_length : (from : ℕ) (bytes : List ℕ) → length (behind from bytes) ≡ length bytes - from
behind_length from bytes = ap length (take_all (length bytes - from) (drop from bytes) (omega (arith, length-drop from bytes))) ∙ length-drop from bytes

behind_is : (from : ℕ) (bytes : List ℕ) (k : ℕ) → get_or (behind from bytes) k 0 ≡ get_or bytes (from + k) 0
behind_is from bytes k = ap (λ rest. get_or rest k 0) (take_all (length bytes - from) (drop from bytes) (omega (arith, length-drop from bytes))) ∙ get_or-drop from bytes k 0

pub no_feed_behind : (from count : ℕ) (bytes : List ℕ) → HasNoFeed from bytes → ((k : ℕ) → 0 ≤ k → k < count → ¬ ((get_or (behind from bytes) k 0 == 10) ≡ true)) → HasNoFeed (from + count) bytes
no_feed_behind from count bytes before none k below is = elim (cases_lt k from) [
  | inl front ↦ before k front is
  | inr later ↦
      let same : from + (k - from) ≡ k = omega (arith, later) in
      none (k - from) (omega arith) (omega (arith, below, later)) (equal_then (get_or (behind from bytes) (k - from) 0) (behind_is from bytes (k - from) ∙ ap (λ n. get_or bytes n 0) same ∙ is))
]

pub feed_behind : (from at : ℕ) (bytes : List ℕ) → (get_or (behind from bytes) at 0 == 10) ≡ true → get_or bytes (from + at) 0 ≡ 10
feed_behind from at bytes is = sym (behind_is from bytes at) ∙ then_equal (get_or (behind from bytes) at 0) is
