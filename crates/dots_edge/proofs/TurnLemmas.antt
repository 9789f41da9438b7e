-- Turns of so many places, from the first one on.
use Rattle.std.proofs.Common.{◌≡◌, ℕ, ◌+◌, ◌-◌, ◌<◌, if◌then◌else◌, nat_lt, sym, ◌∙◌, subst, inl, inr, arith}
use Rattle.std.proofs.lemmas.Bool.{cases_eq}
use Rattle.std.proofs.lemmas.Bool.Decides.{nat_tests}
use Rattle.dots_edge.specs.Turns.{whose_turn}

-- the place that is so many behind the first of all, which follows the last
abbrev pub wrapped : ℕ → ℕ → ℕ
wrapped count place = if nat_lt place count then place else place - count

-- how many have their turn before this place
abbrev pub ahead_of : ℕ → ℕ → ℕ → ℕ
ahead_of count first place = if nat_lt place first then place + count - first else place - first

pub turn_within : (count turn : ℕ) → 0 < count → whose_turn turn count < count
turn_within count turn some = grind (arith, nat_tests)

pub turn_begins : (count turn : ℕ) → 0 < count → whose_turn turn count ≡ wrapped count (whose_turn turn count + 0)
turn_begins count turn some = grind (arith, nat_tests)

pub ahead_now : (count first passed : ℕ) → first < count → passed < count → ahead_of count first (wrapped count (first + passed)) ≡ passed
ahead_now count first passed within less = grind (arith, nat_tests)

pub place_now : (count first passed place : ℕ) → first < count → passed < count → place < count → ahead_of count first place ≡ passed → place ≡ wrapped count (first + passed)
place_now count first passed place within less at is = grind (arith, nat_tests)

pub ahead_within : (count first place : ℕ) → first < count → place < count → ahead_of count first place < count
ahead_within count first place within at = grind (arith, nat_tests)

pub turn_next : (count first passed : ℕ) → first < count → passed < count → whose_turn (wrapped count (first + passed) + 1) count ≡ wrapped count (first + (passed + 1))
turn_next count first passed within less = grind (arith, nat_tests)

pub passed_before : (count first passed place : ℕ) → first < count → passed < count → place < count → (place ≡ wrapped count (first + passed) → ⊥) → ahead_of count first place < passed + 1 → ahead_of count first place < passed
passed_before count first passed place within less inside other behind =
    elim (cases_eq (ahead_of count first place) passed) [
      | inl same ↦ absurd (other (place_now count first passed place within less inside same))
      | inr not_same ↦ omega arith
    ]

-- one place more was passed, and what holds of each that was passed stays
pub passed_more : (count first passed at : ℕ) → first < count → passed < count → at ≡ wrapped count (first + passed) → (P Q : ℕ → Type 0) → ((place : ℕ) → place < count → ahead_of count first place < passed → P place) → ((place : ℕ) → (place ≡ at → ⊥) → P place → Q place) → Q at → (place : ℕ) → place < count → ahead_of count first place < passed + 1 → Q place
passed_more count first passed at within less at_is P Q before keeps here place inside behind =
    elim (cases_eq place at) [
      | inl same ↦ subst Q (sym same) here
      | inr other ↦ keeps place other (before place inside (passed_before count first passed place within less inside (λ is. other (is ∙ sym at_is)) behind))
    ]
