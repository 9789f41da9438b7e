-- The numbers that a search compares.
use Rattle.std.specs.Prelude.{◌≡◌, ℕ, ◌%◌, ◌^◌, Bool, false, List, [], ◌∷◌}
use Rattle.std.specs.List.{AllByRecursion}
use Rattle.filter_table.specs.declared.rank.Rank.{Rank}

-- the lower half of the number
abbrev pub low_of : Rank → ℕ
low_of rank = rank.number % 2 ^ 64

abbrev pub number_of : Rank → ℕ
number_of rank = rank.number

-- none passes behind one that fails
abbrev pub Falls : {A : Type 0} → (A → Bool) → List A → Type 0
Falls p [] = Unit {0}
Falls p (x ∷ xs) = (p x ≡ false → AllByRecursion (λ later. p later ≡ false) xs) × Falls p xs
