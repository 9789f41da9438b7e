-- Which words ask for a generated world.
use Rattle.std.specs.Prelude.{ℕ, List, [], ◌∷◌, if◌then◌else◌, bytes_eq, codes, Option, None}
use Rattle.dots_lists.specs.Numbers.{number_in}

-- the number of `world N`, of 1 to 1,000 without leading zeros
abbrev pub world_of : List (List ℕ) → Option ℕ
world_of (name ∷ number ∷ []) = if bytes_eq name (codes "world") then number_in 1 1000 number else None
world_of _ = None
