-- Which items and fields can stand in a body: they are sound and nest at most so many levels deep.
use Rattle.std.specs.Prelude.{◌≡◌, ℕ, suc, ◌≤◌, List, [], ◌∷◌}
use Rattle.std.specs.List.{AllByRecursion}
use Rattle.cbor_profile.specs.Tree.{Tree, unsigned}
use Rattle.cbor_profile.specs.Within.{IsWithin}

-- the items of an array
pub record AllWithin (levels : ℕ) (trees : List Tree) : Type 0 where
  pub each : AllByRecursion (IsWithin levels) trees

-- Keys are unsigned and rise from low on to below high, and each value is within the levels.
abbrev pub Rises : ℕ → ℕ → ℕ → List (Tree × Tree) → Type 0
Rises levels low high [] = low ≤ high
Rises levels low high (f ∷ fs) = (key : ℕ) × (f.0 ≡ unsigned key) × (low ≤ key) × IsWithin levels f.1 × Rises levels (suc key) high fs

-- fields that can stand beside each other in a map
pub record AreFieldsWithin (levels low high : ℕ) (fields : List (Tree × Tree)) : Type 0 where
  pub rise : Rises levels low high fields
