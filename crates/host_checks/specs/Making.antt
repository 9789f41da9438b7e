-- A journal that is made for other settings.
use Rattle.std.specs.Prelude.{◌≡◌, ◌≢◌, ◌⊎◌, ◌≤◌, ◌++◌, ℕ, max, Bool, true, if◌then◌else◌, List, Option, Some, None, map}
use Rattle.dots_host.specs.Media.{Media, byte_of}
use Rattle.dots_host.specs.Becoming.{RestsWith}
use Rattle.dots_settings.specs.Settings.{SettingsValue}
use Rattle.dots_history.specs.declared.entry.Entry.{Entry}
use Rattle.dots_history.specs.Keeping.{kept}
use Rattle.dots_history.specs.Fits.{is_calm, last_time}
use Rattle.dots_history.specs.Filed.{Filed, entry_of}
use Rattle.slot_journal.specs.DiskEntries.{HasEntries}
use Rattle.slot_journal.specs.DiskEntries as journal
use Rattle.slot_journal.specs.Kept.{HasKept}
use Rattle.dots_registry.specs.Kept.{filed, filed_kept, named_slots}
use Rattle.dots_registry.specs.RegistryValues.{time_of}
use Rattle.dots_registry.specs.LedgerValues.{LedgerValue, Represents}
use Rattle.host_checks.specs.declared.left_out.LeftOut.{LeftOut}
use Rattle.host_checks.specs.declared.left_out.LeftOut.TheVariants as left
use Rattle.host_checks.specs.declared.kept_entry.KeptEntry.{KeptEntry}
use Rattle.host_checks.specs.KeptEntries.{judged, filed_of}
use Rattle.host_checks.specs.Migrating.{carried, with_joined, taken_after, migrated}
use Rattle.host_checks.specs.Leavings.{cause_carried, left_text, left_after, told_of}

-- A ledger and its disk have these entries: it represents them, and the disk rests with what it represents.
pub record HasTaken (settings : SettingsValue) (history : List Entry) (ledger : LedgerValue) (media : Option Media) : Type 0 where
  pub few : List Entry
  pub represents : Represents ledger settings history few
  pub rests : RestsWith media (journal.Represents ledger.journal settings few)

-- they have some
pub record HasTakenSome (settings : SettingsValue) (ledger : LedgerValue) (media : Option Media) : Type 0 where
  pub history : List Entry
  pub taken : HasTaken settings history ledger media

-- the entry that may be taken, and why it is left out, where it is known whether it might stand again
abbrev pub offered : SettingsValue → SettingsValue → Entry → Bool → Option Entry
offered old new e over = if over then None else carried old new e

abbrev pub cause_offered : SettingsValue → SettingsValue → List Entry → Entry → Bool → Option LeftOut
cause_offered old new before e over = if over then Some left.Over else cause_carried new before (carried old new e)

-- Behind those that were taken before, an entry of which is known whether it might stand again was taken or left out: the ledger has it
-- where it joins them, and else its line was added. The time is then not after the entry's.
pub record HasTakenNext (old new : SettingsValue) (before : List Entry) (next : KeptEntry) (over : Bool) (ledger : LedgerValue) (media : Option Media) (front text : List ℕ) : Type 0 where
  pub taken : HasTaken new (with_joined new before (offered old new next.entry over)) ledger media
  pub told : text ≡ front ++ left_text old (filed_of next) (cause_offered old new before next.entry over)
  pub early : time_of ledger.registry ≤ next.entry.time

-- So were all of these entries, one after the other.
pub record HasTakenAll (old new : SettingsValue) (before : List Entry) (filed : List Filed) (t : ℕ) (ledger : LedgerValue) (media : Option Media) (front text : List ℕ) : Type 0 where
  pub taken : HasTaken new (taken_after old new before (map entry_of filed)) ledger media
  pub told : text ≡ front ++ left_after old new before filed
  pub early : time_of ledger.registry ≤ t

-- Of these entries, which stand in slots of an old journal, whatever goes over to the new settings does: the disk that is made holds that,
-- and this is told.
pub record IsFilledWith (old new : SettingsValue) (t : ℕ) (filed : List Filed) (media : Option Media) (text : List ℕ) : Type 0 where
  pub disk : RestsWith media (HasKept new new.limits.remembered t (migrated old new (map entry_of filed)))
  pub told : text ≡ told_of old new filed

-- A disk seems so and holds calm entries, and these are the slots of those that their view names, at the greater of this time and that of
-- the last of them. In the end it rests with them.
pub record HasNamed (settings : SettingsValue) (now : ℕ) (seen : ℕ → ℕ) (media : Option Media) (slots : List ℕ) : Type 0 where
  pub entries : List Entry
  pub image_has : HasEntries settings seen entries
  pub calm : is_calm settings entries ≡ true
  pub named : slots ≡ named_slots settings.limits.remembered (max now (last_time entries)) (filed entries)
  pub rests : RestsWith media (λ image. HasEntries settings image entries)

-- It does, and these are those that their view names, each with its slot and with what the new settings say of it.
pub record HasCounting (old new : SettingsValue) (now : ℕ) (seen : ℕ → ℕ) (list : List KeptEntry) : Type 0 where
  pub entries : List Entry
  pub image_has : HasEntries old seen entries
  pub calm : is_calm old entries ≡ true
  pub counting : list ≡ map (judged old new) (filed_kept old.limits.remembered (max now (last_time entries)) (filed entries))

-- Of a journal that holds these calm entries, whatever of them counts at a time goes over to the new settings: the disk that is made
-- holds that, and this is told.
pub record IsMadeOf (old new : SettingsValue) (t : ℕ) (entries : List Entry) (media : Option Media) (text : List ℕ) : Type 0 where
  pub disk : RestsWith media (HasKept new new.limits.remembered t (migrated old new (kept old.limits.remembered t entries)))
  pub told : text ≡ told_of old new (filed_kept old.limits.remembered t (filed entries))

-- A disk seems so and holds calm entries, and the journal is made of them, at the greater of this time and that of the last of them.
pub record IsMadeFrom (old new : SettingsValue) (now : ℕ) (seen : ℕ → ℕ) (media : Option Media) (text : List ℕ) : Type 0 where
  pub entries : List Entry
  pub image_has : HasEntries old seen entries
  pub calm : is_calm old entries ≡ true
  pub made : IsMadeOf old new (max now (last_time entries)) entries media text

-- ---- a whole image

-- no journal is there: its gate isn't open; or this one is, byte by byte
abbrev pub IsNoneOr : (ℕ → ℕ) → (ℕ → ℕ) → Type 0
IsNoneOr whole image = (image 0 ≢ 165) ⊎ (image ≡ whole)

-- the same of the bytes of a list
abbrev pub IsNoneOrWhole : List ℕ → (ℕ → ℕ) → Type 0
IsNoneOrWhole whole image = (image 0 ≢ 165) ⊎ (image ≡ byte_of whole)

-- an image of a disk holds entries that are calm by the settings
pub record HasCalm (settings : SettingsValue) (image : ℕ → ℕ) : Type 0 where
  pub entries : List Entry
  pub image_has : HasEntries settings image entries
  pub calm : is_calm settings entries ≡ true
