-- Lists of slots, which rise strictly.
use Rattle.std.specs.Prelude.{ℕ, ◌<◌, ◌==◌, nat_lt, if◌then◌else◌, List, [], ◌∷◌, unwrap_or, position}

pub record Slots : Type 0 where
  pub items : List ℕ
  -- how many there may be
  pub room : ℕ

-- each is below the one behind it
abbrev pub Rises : List ℕ → Type 0
Rises [] = Unit {0}
Rises (x ∷ []) = Unit {0}
Rises (x ∷ y ∷ ys) = (x < y) × Rises (y ∷ ys)

-- the list with this slot in its place
abbrev pub placed : ℕ → List ℕ → List ℕ
placed slot [] = slot ∷ []
placed slot (x ∷ xs) = if nat_lt x slot then x ∷ placed slot xs else (if x == slot then x ∷ xs else slot ∷ x ∷ xs)

-- the new number of a slot: its place among those that are kept
abbrev pub number_in : List ℕ → ℕ → ℕ
number_in keep slot = unwrap_or (position (λ other. other == slot) keep) slot
