-- The entries that a disk holds, one record for each, and the journal that represents them.
use Rattle.std.specs.Prelude.{◌≡◌, ℕ, ◌⊎◌, List, map, slice_get, option_to_list, IsTrue}
use Rattle.std.specs.List.{AllByRecursion, flat_map}
use Rattle.slot_store.specs.declared.format.Format.{Format}
use Rattle.dots_settings.specs.Settings.{SettingsValue}
use Rattle.dots_history.specs.declared.entry.Entry.{Entry}
use Rattle.dots_history.specs.Bounds.{within_bounds}
use Rattle.slot_journal.specs.Values.{IsEntry}
use Rattle.slot_journal.specs.Layout.{record_bytes}
use Rattle.slot_store.specs.Layout.{HasRecords}
use Rattle.slot_store.specs.StoreValues.{JournalValue, RepresentsRecords}
use Rattle.slot_journal.specs.Sizes.{slots_of}

-- the entry has a record: it is what the types of its fields say, and within bounds
pub record HasRecord (entry : Entry) : Type 0 where
  pub typed : IsEntry entry
  pub within : IsTrue (within_bounds entry)

-- the records of the entries in this format
abbrev pub records_of : Format → List Entry → List (List ℕ)
records_of format entries = map (record_bytes format) entries

-- An image of a disk holds these entries, under these settings: without a header each gate is zero and there is none; else they are those of the
-- records of the half in use, in the format that the header says of it.
pub record HasEntries (settings : SettingsValue) (image : ℕ → ℕ) (entries : List Entry) : Type 0 where
  pub format : Format
  pub records : HasRecords (slots_of settings) settings.digest format image (records_of format entries)
  pub each : AllByRecursion HasRecord entries

-- one list of entries, or another
abbrev pub HasEither : SettingsValue → List Entry → List Entry → (ℕ → ℕ) → Type 0
HasEither settings first second image = HasEntries settings image first ⊎ HasEntries settings image second

-- the journal represents these entries on this disk
pub record Represents (journal : JournalValue) (settings : SettingsValue) (entries : List Entry) (image : ℕ → ℕ) : Type 0 where
  pub slots : journal.slots ≡ slots_of settings
  pub represents : RepresentsRecords journal settings.digest (records_of journal.format entries) image
  pub each : AllByRecursion HasRecord entries

-- the entries of these slots, in the order of the list
abbrev pub entries_at : List Entry → List ℕ → List Entry
entries_at entries slots = flat_map (λ slot. option_to_list (slice_get entries slot)) slots
