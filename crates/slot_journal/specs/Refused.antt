-- Why a disk isn't recovered.
use Rattle.std.specs.Prelude.{◌≡◌, ◌≢◌, ℕ, ◌%◌, ◌<◌, ◌≤◌, ◌⊎◌, List, [], length, slice_index_or, Result, Err, ⊤}
use Rattle.std.specs.List.{AllByRecursion}
use Rattle.dots_host.specs.Causes.{Rose}
use Rattle.slot_store.specs.declared.format.Format.{Format}
use Rattle.dots_settings.specs.Settings.{SettingsValue}
use Rattle.dots_history.specs.declared.entry.Entry.{Entry}
use Rattle.slot_journal.specs.Records.{IsRecord}
use Rattle.slot_store.specs.declared.fault.OpenFault.{OpenFault}
use Rattle.slot_store.specs.declared.fault.OpenFault.TheVariants as opening
use Rattle.slot_store.specs.Layout.{place_of, needed_of, IsHeader, HasFormat, IsSlot}
use Rattle.slot_store.specs.Refusing.{RefusesDisk}
use Rattle.slot_journal.specs.declared.fault.JournalFault.{JournalFault}
use Rattle.slot_journal.specs.declared.fault.JournalFault.TheVariants as fault
use Rattle.slot_journal.specs.Sizes.{slots_of}
use Rattle.slot_journal.specs.DiskEntries.{HasRecord, records_of}

-- what stands in the slot is the record of no entry in this format
abbrev pub IsStray : Format → (ℕ → ℕ) → ℕ → Type 0
IsStray format seen at = (filled : List ℕ) (entry : Entry) → IsSlot seen at filled → ¬ (IsRecord format filled entry)

-- why no entry is read of bytes that stand in the slot at the place
abbrev pub IsNoRecord : Format → List ℕ → ℕ → JournalFault → Type 0
IsNoRecord format bytes at (fault.NotOurs place) = (place ≡ at) × ((entry : Entry) → ¬ (IsRecord format bytes entry))
IsNoRecord format bytes at fault.NoMemory = ⊤
IsNoRecord format bytes at _ = ⊥

-- why no entry is read of the slot at the place
abbrev pub RefusesSlot : Format → (ℕ → ℕ) → ℕ → JournalFault → Type 0
RefusesSlot format seen at (fault.NotOurs place) = (place ≡ at) × IsStray format seen at
RefusesSlot format seen at fault.DiskFault = ⊤
RefusesSlot format seen at fault.NoMemory = ⊤
RefusesSlot format seen at _ = ⊥

-- the first slots of a half hold the records of these entries, in this format
abbrev pub HasFirst : ℕ → ℕ → Format → (ℕ → ℕ) → List Entry → Type 0
HasFirst slots half format seen entries = (slot : ℕ) → slot < length entries → IsSlot seen (place_of slots half slot) (slice_index_or (records_of format entries) slot [])

-- the gates of these slots are not open, from the one up to the other
abbrev pub AreClosed : ℕ → ℕ → (ℕ → ℕ) → ℕ → ℕ → Type 0
AreClosed slots half seen from to = (slot : ℕ) → from ≤ slot → slot < to → seen (place_of slots half slot) ≢ 165

-- the first slot of a half whose gate is open and whose record, in the format of the half, is that of no entry
pub record IsBadSlot (slots half : ℕ) (format : Format) (seen : ℕ → ℕ) (at : ℕ) : Type 0 where
  pub before : List Entry
  pub front : HasFirst slots half format seen before
  pub each : AllByRecursion HasRecord before
  pub within : length before < slots
  pub there : at ≡ place_of slots half (length before)
  pub gate : seen at ≡ 165
  pub stray : IsStray format seen at

-- the first slot with an open gate behind one whose gate isn't open
pub record IsGap (slots half : ℕ) (format : Format) (seen : ℕ → ℕ) (at : ℕ) : Type 0 where
  pub before : List Entry
  pub front : HasFirst slots half format seen before
  pub each : AllByRecursion HasRecord before
  pub slot : ℕ
  pub behind : length before < slot
  pub within : slot < slots
  pub there : at ≡ place_of slots half slot
  pub gate : seen at ≡ 165
  pub closed : AreClosed slots half seen (length before) slot

-- why what stands behind the entries is refused
abbrev pub RefusesRest : ℕ → ℕ → (ℕ → ℕ) → ℕ → JournalFault → Type 0
RefusesRest slots half seen used (fault.NotOurs at) = (slot : ℕ) × (used ≤ slot) × (slot < slots) × (at ≡ place_of slots half slot) × (seen at ≡ 165) × AreClosed slots half seen used slot
RefusesRest slots half seen used fault.DiskFault = ⊤
RefusesRest slots half seen used _ = ⊥

-- memory didn't run out
abbrev pub IsNoWant : JournalFault → Type 0
IsNoWant fault.NoMemory = ⊥
IsNoWant _ = ⊤

-- why a half is refused
abbrev pub RefusesHalf : ℕ → ℕ → Format → (ℕ → ℕ) → JournalFault → Type 0
RefusesHalf slots half format seen (fault.NotOurs at) = IsBadSlot slots half format seen at ⊎ IsGap slots half format seen at
RefusesHalf slots half format seen fault.DiskFault = ⊤
RefusesHalf slots half format seen fault.NoMemory = ⊤
RefusesHalf slots half format seen _ = ⊥

-- Why a disk isn't recovered, by its size and what a read gives: it is too small, its header or, where it has none, a gate isn't this format's, it was written under other settings, or a slot of the half in use is refused. Memory and calls of the disk aside.
abbrev pub Refuses : SettingsValue → ℕ → (ℕ → ℕ) → JournalFault → Type 0
Refuses settings extent seen (fault.TooSmall needed found) = (needed ≡ needed_of (slots_of settings)) × (found ≡ extent) × (found < needed)
Refuses settings extent seen (fault.NotOurs at) =
    RefusesDisk (slots_of settings) settings.digest seen (opening.NotOurs at)
    ⊎ (IsHeader (slots_of settings) settings.digest seen
    × ((format : Format) × HasFormat format seen × (IsBadSlot (slots_of settings) (seen 48 % 2) format seen at ⊎ IsGap (slots_of settings) (seen 48 % 2) format seen at)))
Refuses settings extent seen (fault.SettingsChanged stored given) = RefusesDisk (slots_of settings) settings.digest seen (opening.SettingsChanged stored) × (given ≡ settings.digest)
Refuses settings extent seen fault.DiskFault = ⊤
Refuses settings extent seen fault.NoMemory = ⊤

-- Why a disk is too small, whatever it tells of its content: its size is always told, and the settings need more bytes.
abbrev pub IsSmallBy : SettingsValue → ℕ → JournalFault → Type 0
IsSmallBy settings extent (fault.TooSmall needed found) = (needed ≡ needed_of (slots_of settings)) × (found ≡ extent) × (found < needed)
IsSmallBy settings extent _ = ⊤

-- the disk isn't refused for its size
abbrev pub IsNoSize : JournalFault → Type 0
IsNoSize (fault.TooSmall needed found) = ⊥
IsNoSize _ = ⊤

-- a fault of the disk comes where its count rose, and else the count stays
abbrev pub Caused : {A : Type 0} → ℕ → ℕ → Result A JournalFault → Type 0
Caused before now (Err fault.DiskFault) = Rose before now
Caused before now _ = now ≡ before

-- what is told where the slots aren't opened under settings with this digest
abbrev pub IsFaultFor : OpenFault → List ℕ → JournalFault → Type 0
IsFaultFor (opening.TooSmall needed found) given answer = answer ≡ fault.TooSmall needed found
IsFaultFor (opening.NotOurs at) given answer = answer ≡ fault.NotOurs at
IsFaultFor (opening.SettingsChanged stored) given answer = answer ≡ fault.SettingsChanged stored given
IsFaultFor opening.DiskFault given answer = answer ≡ fault.DiskFault
IsFaultFor opening.NoMemory given answer = answer ≡ fault.NoMemory

-- a disk is refused for what it holds
abbrev pub IsRefusal : JournalFault → Type 0
IsRefusal (fault.NotOurs at) = ⊤
IsRefusal (fault.SettingsChanged stored given) = ⊤
IsRefusal _ = ⊥
