-- Spots in a row, each of which has a slot or none.
use Rattle.std.specs.Prelude.{ℕ, List, [], ◌∷◌, Option, None, Some}

-- the slots that stand in them
abbrev pub filled : List (Option ℕ) → List ℕ
filled [] = []
filled (None ∷ spots) = filled spots
filled (Some slot ∷ spots) = slot ∷ filled spots
