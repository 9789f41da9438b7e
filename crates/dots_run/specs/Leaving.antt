-- A run over what a crash of another left.
use Rattle.std.specs.Prelude.{◌≡◌, ℕ, ◌+◌, ◌≤◌, List, ◌∷◌, ◌++◌, length, take, Option, Some}
use Rattle.dots_host.specs.Acts.{Timed}
use Rattle.dots_host.specs.Runs.{Owing, Added}
use Rattle.dots_host.specs.Media.{Medium, Media, IsImage, all_media}
use Rattle.dots_settings.specs.Settings.{SettingsValue}
use Rattle.dots_history.specs.declared.entry.Entry.{Entry}
use Rattle.dots_history.specs.Histories.{Kept}
use Rattle.slot_store.specs.Gates.{Sees}
use Rattle.slot_journal.specs.DiskEntries.{HasEntries}
use Rattle.dots_machine.specs.declared.ending.Stop.{Stop}
use Rattle.dots_machine.specs.Machine.{State, begun_from}
use Rattle.dots_machine.specs.Outside.{Outside}
use Rattle.dots_machine.specs.Endings.{by_disk, HasRun, Serves}
use Rattle.dots_machine.specs.Surviving.{shown, time_at}

-- From the one state of a disk to the other moments came, and a crash at this one of them leaves the image.
pub record IsLeftAt (m : ℕ) (old new : Media) (image : ℕ → ℕ) : Type 0 where
  pub added : List Medium
  pub grown : all_media new ≡ all_media old ++ added
  pub earlier : List Medium
  pub medium : Medium
  pub later : List Medium
  pub split : added ≡ earlier ++ medium ∷ later
  pub moment : m ≡ length old.past + 1 + length earlier
  pub is : IsImage medium image

-- where the disk is told
abbrev pub CrashLeaves : ℕ → Option Media → Option Media → (ℕ → ℕ) → Type 0
CrashLeaves m (Some old) (Some new) image = IsLeftAt m old new image
CrashLeaves m _ _ image = ⊥

-- A run from these entries, whatever it wrote in the end: how it stopped, what it tells, and that its acts are a run of the machine.
pub record RunsSo (settings : SettingsValue) (stored : List Entry) (before now : Outside) : Type 0 where
  pub how : Stop
  pub end : Owing State
  pub trace : List State
  pub has_run : Added before.acts now.acts (HasRun settings (begun_from settings stored) how before now trace end)

-- A run that came to serve, however it ended: it recovered entries, which are what the disk held, where it is told, and is a run from them.
pub record HasServed (settings : SettingsValue) (before now : Outside) : Type 0 where
  pub stored : List Entry
  pub was_stored : (seen : ℕ → ℕ) → Sees before.media seen → HasEntries settings seen stored
  pub runs_from : (seen : ℕ → ℕ) → Sees before.media seen → RunsSo settings stored before now

-- each run that served has lived, whatever it wrote
abbrev pub has_served : {settings : SettingsValue} {how : Stop} {before now : Outside} {wrote : State → Type 0} → Serves settings how before now wrote → HasServed settings before now
has_served serves = record {
  stored = serves.stored;
  was_stored = serves.was_stored;
  runs_from = λ seen sees. record { how = _; end = (serves.runs_from (by_disk seen sees)).end; trace = (serves.runs_from (by_disk seen sees)).trace; has_run = (serves.runs_from (by_disk seen sees)).has_run };
}

-- These entries mean a front of the history to which a run came: they have its view at the machine's time at the moment, and it has at least the
-- entries that were told before.
pub record GoesOn (settings : SettingsValue) (start : State) (acts : List Timed) (trace : List State) (history : List Entry) (m : ℕ) (stored : List Entry) : Type 0 where
  pub count : ℕ
  pub within : count ≤ length history
  pub has_shown : shown m acts trace (length start.history) ≤ count
  pub kept : Kept settings.limits.remembered (time_at m acts trace start.time) stored (take count history)
