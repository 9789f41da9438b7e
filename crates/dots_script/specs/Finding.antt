-- What is found at the front of what is known to come, some of which was read ahead.
use Rattle.std.specs.Prelude.{◌≡◌, ℕ, ◌^◌, ◌<◌, ◌≤◌, ◌⊎◌, List, [], length, take, get_or, Option, IfSome}
use Rattle.std.specs.Io.KnownBytes.{IsAtEnd}
use Rattle.dots_script.specs.declared.lines.Found.{Found}
use Rattle.dots_script.specs.declared.lines.Found.TheVariants as found
use Rattle.dots_script.specs.Script.{IsSkipped}
use Rattle.dots_script.specs.Lines.{HasNoFeed, IsTooLong, IsUnended, Skips, to_come}

-- a line of so many bytes, and its line feed
pub record HasLine (ahead : List ℕ) (len : ℕ) : Type 0 where
  pub within : len < length ahead
  pub short : len ≤ 8400
  pub feed : get_or ahead len 0 ≡ 10
  pub whole : HasNoFeed len ahead

-- nothing comes
pub record HasNone (ahead : List ℕ) (left : Option (List ℕ)) : Type 0 where
  pub none_ahead : ahead ≡ []
  pub none_left : IsAtEnd left

abbrev pub Finds : Found → List ℕ → Option (List ℕ) → Type 0 → Type 0
Finds (found.Line len) ahead left other = HasLine ahead len
Finds found.End ahead left other = HasNone ahead left
Finds found.Fault ahead left other = IfSome (to_come ahead left) (λ text. IsTooLong text ⊎ IsUnended text)
Finds found.Failed ahead left other = other

-- the same behind lines that are skipped; the line is none of these
abbrev pub Reaches : Option (List ℕ) → Found → List ℕ → Option (List ℕ) → Type 0 → Type 0
Reaches old (found.Line len) ahead left other = (count : ℕ) × (count < 2 ^ 40) × Skips old (to_come ahead left) count × HasLine ahead len × (¬ (IsSkipped (take len ahead)))
Reaches old found.End ahead left other = (count : ℕ) × (count < 2 ^ 40) × Skips old (to_come ahead left) count × HasNone ahead left
Reaches old found.Fault ahead left other = (count : ℕ) × (count ≤ 2 ^ 40) × Skips old (to_come ahead left) count × ((count ≡ 2 ^ 40) ⊎ IfSome (to_come ahead left) (λ text. IsTooLong text ⊎ IsUnended text))
Reaches old found.Failed ahead left other = (count : ℕ) × (count ≤ 2 ^ 40) × Skips old (to_come ahead left) count × other
