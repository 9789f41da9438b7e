-- The live mitigations of a domain, and those of all domains, as tables keep them.
use Rattle.std.specs.Prelude.{◌≡◌, ℕ, zero, suc, ◌+◌, Bool, List, [], ◌∷◌, ◌++◌, map, length, slice_get, Option, Some, None, option_map}
use Rattle.std.specs.List.{list_any}
use Rattle.dots_history.specs.declared.entry.Entry.{Entry}
use Rattle.dots_history.specs.declared.status.Status.TheVariants.{Open}
use Rattle.dots_history.specs.Histories.{Mitigation, live, step}
use Rattle.dots_history.specs.Keeping.{moved}
use Rattle.dots_history.specs.Filed.{Filed}
use Rattle.dots_history.specs.Tables.{bare}
use Rattle.dots_history.specs.Views.{mitigations_at, mitigations_with}
use Rattle.lifetime_clock.specs.Times.{Times, IsMap, time_of}
use Rattle.live_mitigations.specs.declared.slots.MitigationSlots.{MitigationSlots}
use Rattle.live_mitigations.specs.Ends.{first_end}
use Rattle.live_mitigations.specs.Slots.{slots_at, slots_left, slots_first}

-- how many there is room for, the mitigations in order of their entries, and of each the slots of a journal in which its entries
-- stand
pub record LiveTable : Type 0 where
  pub room : ℕ
  pub rows : List Mitigation
  pub slots : List MitigationSlots

-- at this time
abbrev pub aged : ℕ → LiveTable → LiveTable
aged now table = record { room = table.room; rows = mitigations_at now table.rows; slots = slots_at now table.rows table.slots }

-- what an entry does to those that are there
abbrev pub moved_all : Entry → List Mitigation → List Mitigation
moved_all e ms = mitigations_at e.time (map (moved e) ms)

-- the mitigation of an entry, where it is live at the entry's time
abbrev pub of_entry : Entry → List Mitigation
of_entry e = mitigations_at e.time (record { put = e; status = Open } ∷ [])

-- after an entry that puts none, which stands in a slot
abbrev pub noted : Filed → LiveTable → LiveTable
noted x table =
    record { room = table.room; rows = moved_all x.entry table.rows; slots = slots_left x table.rows table.slots }

-- after any entry
abbrev pub grown : Filed → LiveTable → LiveTable
grown x table = record {
  room = table.room;
  rows = mitigations_with (bare x.entry) table.rows;
  slots = slots_left x table.rows table.slots ++ slots_first x;
}

-- it is live after the entry, at the entry's time
abbrev pub is_left : Entry → Mitigation → Bool
is_left e m = live e.time m.put (step m.put m.status e)

-- the entry puts a mitigation that is live at the entry's time
abbrev pub lives_at_first : Entry → Bool
lives_at_first e = live e.time e Open

-- what stands at a place, changed
abbrev pub update : {A : Type 0} → (A → A) → ℕ → List A → List A
update f place [] = []
update f zero (x ∷ xs) = f x ∷ xs
update f (suc place) (x ∷ xs) = x ∷ update f place xs

abbrev pub rows_or_none : Option LiveTable → List Mitigation
rows_or_none None = []
rows_or_none (Some table) = table.rows

-- those of a domain, by its number
abbrev pub rows_at : ℕ → List LiveTable → List Mitigation
rows_at domain tables = rows_or_none (slice_get tables domain)

abbrev pub slots_or_none : Option LiveTable → List MitigationSlots
slots_or_none None = []
slots_or_none (Some table) = table.slots

abbrev pub slots_of : ℕ → List LiveTable → List MitigationSlots
slots_of domain tables = slots_or_none (slice_get tables domain)

-- how many there are in all
abbrev pub count_rows : List LiveTable → ℕ
count_rows [] = 0
count_rows (table ∷ tables) = length table.rows + count_rows tables

-- so many tables, each without rows and with this room
pub record AreEmpty (number room : ℕ) (tables : List LiveTable) : Type 0 where
  pub counted : length tables ≡ number
  pub each : (domain : ℕ) (table : LiveTable) → slice_get tables domain ≡ Some table → table ≡ record { room = room; rows = []; slots = [] }

-- one of them passes
abbrev pub any_row : (Mitigation → Bool) → List LiveTable → Bool
any_row test tables = list_any (λ (table : LiveTable). list_any test table.rows) tables

abbrev pub due_of : LiveTable → ℕ
due_of table = first_end table.rows

-- each domain has a deadline, the first end of its mitigations, and nothing else has one
pub record Tied (times : Times) (tables : List LiveTable) : Type 0 where
  pub is_map : IsMap times
  pub ties : (domain : ℕ) → time_of times domain ≡ option_map due_of (slice_get tables domain)
