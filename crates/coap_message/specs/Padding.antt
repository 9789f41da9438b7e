-- A token in eight bytes.
use Rattle.std.specs.Prelude.{◌≡◌, ℕ, ◌-◌, ◌≤◌, List, ◌++◌, length, take, replicate}
use Rattle.std.proofs.Common.{sym, subst}
use Rattle.std.proofs.lemmas.List.{length-take-le}

-- with zeros behind
abbrev pub padded : List ℕ → List ℕ
padded bytes = bytes ++ replicate (8 - length bytes) 0

-- a part in front has its length, as the law of the view asks
pub take_size : (n : ℕ) (bytes : List ℕ) → n ≤ 8 → length bytes ≡ 8 → length (take n bytes) ≡ n
take_size n bytes le whole = length-take-le n bytes (subst (λ (k : ℕ). n ≤ k) (sym whole) le)
