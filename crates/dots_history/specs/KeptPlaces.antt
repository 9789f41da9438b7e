-- The places that a view names, and those that each of its parts names.
use Rattle.std.specs.Prelude.{ℕ, List, [], ◌∷◌, ◌++◌, option_to_list, slice_get}
use Rattle.std.specs.List.{list_any}
use Rattle.dots_history.specs.declared.entry.Entry.{Entry}
use Rattle.dots_history.specs.declared.status.Status.TheVariants.{Open}
use Rattle.dots_history.specs.Histories.{live, status, is_recent, is_nil, stays}
use Rattle.dots_history.specs.Keeping.{is_first, kept_places}
use Rattle.dots_history.specs.Slots.{placed}

-- what stands at these places
abbrev pub at_places : {A : Type 0} → List A → List ℕ → List A
at_places xs [] = []
at_places xs (place ∷ places) = option_to_list (slice_get xs place) ++ at_places xs places

-- each of the places put into its place among the others
abbrev pub union : List ℕ → List ℕ → List ℕ
union [] ys = ys
union (x ∷ xs) ys = placed x (union xs ys)

-- the places of the live mitigations
abbrev pub live_places : ℕ → List Entry → List ℕ
live_places t entries = kept_places (λ passed e later. live t e (status e Open later)) [] 0 entries

-- of their first withdrawals
abbrev pub withdrawal_places : ℕ → List Entry → List ℕ
withdrawal_places t entries = kept_places (λ passed e later. list_any (is_first t e later) passed) [] 0 entries

-- of the last n signal entries of each peer and domain
abbrev pub recent_places : ℕ → List Entry → List ℕ
recent_places n entries = kept_places (λ passed e later. is_recent n e later) [] 0 entries

-- of the last entry
abbrev pub last_places : List Entry → List ℕ
last_places entries = kept_places (λ passed e later. is_nil later) [] 0 entries

-- of what is held
abbrev pub held_places : List Entry → List ℕ
held_places entries = kept_places (λ passed e later. stays e later) [] 0 entries
