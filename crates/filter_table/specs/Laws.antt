-- What the definitions of a filter table come to.
use Rattle.std.specs.Prelude.{◌≢◌, ℕ, ◌≤◌, List, [], ◌∷◌}
use Rattle.std.specs.List.{AllByRecursion}
use Rattle.filter_table.specs.TableRows.{PlacedScrub}

-- no place is above a later one
abbrev pub AreInOrder : {A : Type 0} → (A → ℕ) → List A → Type 0
AreInOrder place_of [] = Unit {0}
AreInOrder place_of (x ∷ xs) = AllByRecursion (λ later. place_of x ≤ place_of later) xs × AreInOrder place_of xs

-- no two rows have one slot
abbrev pub HaveTheirSlots : List PlacedScrub → Type 0
HaveTheirSlots [] = Unit {0}
HaveTheirSlots (x ∷ xs) = AllByRecursion (λ (later : PlacedScrub). x.slot ≢ later.slot) xs × HaveTheirSlots xs
