-- The entries of a history in slots of a journal.
use Rattle.std.specs.Prelude.{ℕ, List}
use Rattle.dots_history.specs.declared.entry.Entry.{Entry}
use Rattle.dots_history.specs.Slots.{number_in}

-- an entry with the slot of a journal that it stands in
pub record Filed : Type 0 where
  pub entry : Entry
  pub slot : ℕ

abbrev pub entry_of : Filed → Entry
entry_of filed = filed.entry

abbrev pub slot_of : Filed → ℕ
slot_of filed = filed.slot

-- an entry with the new number of its slot
abbrev pub refiled : List ℕ → Filed → Filed
refiled keep x = record { entry = x.entry; slot = number_in keep x.slot }
