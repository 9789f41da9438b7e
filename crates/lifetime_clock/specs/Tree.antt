-- Lists of keys with their times, as a tree holds them.
use Rattle.std.specs.Prelude.{◌≡◌, ℕ, ◌-◌, ◌^◌, ◌<◌, min, List, [], ◌∷◌, ◌++◌, Option, Some, None}
use Rattle.lifetime_clock.specs.declared.tree.Branch.{Branch}

-- the key and the time of a branch
abbrev pub entry_of : Branch → ℕ × ℕ
entry_of branch = (branch.key, branch.at)

-- the least of the times; the greatest u64 where there are none
abbrev pub least_time : List (ℕ × ℕ) → ℕ
least_time [] = 2 ^ 64 - 1
least_time (entry ∷ entries) = min entry.1 (least_time entries)

-- the key is there with this time
pub record Has (entries : List (ℕ × ℕ)) (key time : ℕ) : Type 0 where
  pub before : List (ℕ × ℕ)
  pub behind : List (ℕ × ℕ)
  pub is : entries ≡ before ++ (key, time) ∷ behind

-- each key is smaller than this one
abbrev pub KeysBelow : ℕ → List (ℕ × ℕ) → Type 0
KeysBelow key [] = Unit {0}
KeysBelow key (entry ∷ entries) = (entry.0 < key) × KeysBelow key entries

-- each key is greater than this one
abbrev pub KeysAbove : ℕ → List (ℕ × ℕ) → Type 0
KeysAbove key [] = Unit {0}
KeysAbove key (entry ∷ entries) = (key < entry.0) × KeysAbove key entries

-- each key is smaller than all later ones
abbrev pub KeysRise : List (ℕ × ℕ) → Type 0
KeysRise [] = Unit {0}
KeysRise (entry ∷ entries) = KeysAbove entry.0 entries × KeysRise entries

-- the key with its time, if it has one
abbrev pub entry_at : ℕ → Option ℕ → List (ℕ × ℕ)
entry_at key None = []
entry_at key (Some time) = (key, time) ∷ []

-- the entries are those with smaller keys, the key with its time if it is there, and those with greater keys
pub record SplitsAt (entries : List (ℕ × ℕ)) (key : ℕ) (below : List (ℕ × ℕ)) (time : Option ℕ) (above : List (ℕ × ℕ)) : Type 0 where
  pub parts : entries ≡ below ++ (entry_at key time ++ above)
  pub smaller : KeysBelow key below
  pub greater : KeysAbove key above
