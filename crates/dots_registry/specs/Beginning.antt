-- How a ledger begins by what a disk holds.
use Rattle.std.specs.Prelude.{◌≡◌, ℕ, max, Bool, ◌&&◌, List, Option}
use Rattle.dots_host.specs.Media.{Media}
use Rattle.dots_host.specs.Becoming.{RestsWith}
use Rattle.dots_settings.specs.Settings.{SettingsValue}
use Rattle.dots_history.specs.declared.entry.Entry.{Entry}
use Rattle.dots_history.specs.Histories.{mitigations}
use Rattle.dots_history.specs.Calm.{came_rightly}
use Rattle.dots_history.specs.Fits.{last_time, has_one_peer}
use Rattle.dots_registry.specs.RegistryValues.{RegistryValue, time_of}
use Rattle.dots_registry.specs.Fitting.{fits_now}
use Rattle.slot_store.specs.Gates.{Sees}
use Rattle.std.specs.List.{AllByRecursion}
use Rattle.slot_journal.specs.DiskEntries.{HasEntries, HasRecord}
use Rattle.slot_journal.specs.DiskEntries as journal
use Rattle.dots_registry.specs.LedgerValues.{LedgerValue, Represents}

-- what the tables say of an entry at their time: whether it joins the entries of which they are
abbrev pub joins_now : SettingsValue → RegistryValue → List Entry → Entry → Bool
joins_now settings registry before e =
    fits_now settings registry before e && (came_rightly e && has_one_peer e (mitigations (time_of registry) before))

-- A ledger begins with the entries that the disk held: it represents them at the greater of this time and that of the last one, and the
-- disk rests with them.
pub record HasBegun (settings : SettingsValue) (at : ℕ) (start now : Option Media) (ledger : LedgerValue) : Type 0 where
  pub entries : List Entry
  pub each : AllByRecursion HasRecord entries
  pub represents : Represents ledger settings entries entries
  pub time : time_of ledger.registry ≡ max at (last_time entries)
  pub stored : (seen : ℕ → ℕ) → Sees start seen → HasEntries settings seen entries
  pub rests : (seen : ℕ → ℕ) → Sees start seen → RestsWith now (journal.Represents ledger.journal settings entries)
