-- An order of slots.
use Rattle.std.specs.Prelude.{ℕ, Bool, not, ◌==◌, List, filter}
use Rattle.std.specs.List.{list_any}

-- slots below the room, each once, in their order
pub record OrderValue : Type 0 where
  pub room : ℕ
  pub slots : List ℕ

abbrev pub is_slot : ℕ → ℕ → Bool
is_slot slot other = other == slot

abbrev pub has_slot : ℕ → List ℕ → Bool
has_slot slot slots = list_any (is_slot slot) slots

-- the others in their order
abbrev pub without : ℕ → List ℕ → List ℕ
without slot slots = filter (λ other. not (is_slot slot other)) slots
