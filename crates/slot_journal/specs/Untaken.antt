-- Why the entries of a disk aren't taken: the disk isn't recovered, or an entry doesn't join those before it.
use Rattle.std.specs.Prelude.{◌≡◌, ℕ, ◌%◌, ◌⊎◌, ⊤, true, false, List, ◌∷◌, ◌++◌, length, Option}
use Rattle.dots_host.specs.Media.{Media}
use Rattle.dots_host.specs.Becoming.{RestsWith}
use Rattle.dots_settings.specs.Settings.{SettingsValue}
use Rattle.dots_history.specs.declared.entry.Entry.{Entry}
use Rattle.dots_history.specs.Fits.{joins, is_calm}
use Rattle.slot_store.specs.Layout.{place_of}
use Rattle.slot_store.specs.StoreValues.{JournalValue}
use Rattle.slot_journal.specs.declared.fault.JournalFault.{JournalFault}
use Rattle.slot_journal.specs.declared.fault.JournalFault.TheVariants as fault
use Rattle.slot_journal.specs.Sizes.{slots_of}
use Rattle.slot_journal.specs.DiskEntries.{HasEntries}
use Rattle.slot_journal.specs.Refused.{Refuses}

-- at this place stands the first of the entries that doesn't join those before it
pub record IsApart (settings : SettingsValue) (entries : List Entry) (place : ℕ) : Type 0 where
  pub before : List Entry
  pub entry : Entry
  pub later : List Entry
  pub cut : entries ≡ before ++ entry ∷ later
  pub calm : is_calm settings before ≡ true
  pub apart : joins settings before entry ≡ false
  pub there : place ≡ length before

-- why the entries of a journal aren't taken: one of them doesn't join, and its slot is told; or memory ran out
abbrev pub RefusesEntries : SettingsValue → JournalValue → List Entry → JournalFault → Type 0
RefusesEntries settings journal entries (fault.NotOurs at) =
    (slot : ℕ) × IsApart settings entries slot × (at ≡ place_of journal.slots (journal.selector % 2) slot)
RefusesEntries settings journal entries fault.NoMemory = ⊤
RefusesEntries settings journal entries _ = ⊥

-- A disk holds entries, one of which doesn't join: the place is that of its slot, in the half that is in use by what the disk rests with
-- in the end.
pub record HasStray (settings : SettingsValue) (seen : ℕ → ℕ) (now : Option Media) (at : ℕ) : Type 0 where
  pub entries : List Entry
  pub image_has : HasEntries settings seen entries
  pub slot : ℕ
  pub apart : IsApart settings entries slot
  pub there : RestsWith now (λ image. at ≡ place_of (slots_of settings) (image 48 % 2) slot)

-- why no ledger begins: the journal isn't recovered, or holds an entry that doesn't join those before it
abbrev pub RefusesLedger : SettingsValue → ℕ → (ℕ → ℕ) → Option Media → JournalFault → Type 0
RefusesLedger settings extent seen now (fault.NotOurs at) = Refuses settings extent seen (fault.NotOurs at) ⊎ HasStray settings seen now at
RefusesLedger settings extent seen now why = Refuses settings extent seen why

-- memory ran out, or a call of the disk failed
abbrev pub IsFailure : JournalFault → Type 0
IsFailure fault.NoMemory = ⊤
IsFailure fault.DiskFault = ⊤
IsFailure _ = ⊥
