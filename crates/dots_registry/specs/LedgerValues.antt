-- What a ledger keeps, and for which history it stands.
use Rattle.std.specs.Prelude.{◌≡◌, ℕ, Bool, true, ◌&&◌, ◌<◌, nat_le, nat_lt, if◌then◌else◌, List, length}
use Rattle.dots_settings.specs.Settings.{SettingsValue}
use Rattle.dots_history.specs.declared.entry.Entry.{Entry}
use Rattle.dots_history.specs.Bounds.{within_bounds}
use Rattle.dots_history.specs.Histories.{Kept}
use Rattle.dots_history.specs.Keeping.{kept}
use Rattle.dots_history.specs.Fits.{joins, is_calm}
use Rattle.dots_registry.specs.Kept.{filed}
use Rattle.dots_registry.specs.RegistryValues.{RegistryValue, IsOf, time_of, number_remembered}
use Rattle.dots_registry.specs.RegistryValues as registry
use Rattle.dots_registry.specs.Filed.{RepresentsFiled, most_kept}
use Rattle.slot_store.specs.StoreValues.{JournalValue}

-- the tables of what was accepted, and what is known of the disk
pub record LedgerValue : Type 0 where
  pub registry : RegistryValue
  pub journal : JournalValue

-- A ledger represents a history of which these entries are on its disk, each in the slot of its place: it has the tables of the history; the
-- entries are calm by the settings, and a part of the history with its view; and a compaction leaves a slot free.
pub record Represents (ledger : LedgerValue) (settings : SettingsValue) (history entries : List Entry) : Type 0 where
  pub is_of : IsOf settings ledger.registry
  pub registry : registry.Represents ledger.registry history
  pub represents_filed : RepresentsFiled ledger.registry (filed entries)
  pub calm : is_calm settings entries ≡ true
  pub kept : Kept (number_remembered ledger.registry) (time_of ledger.registry) entries history
  pub used : ledger.journal.used ≡ length entries
  pub free : most_kept ledger.registry < ledger.journal.slots

-- What stands in the half in use once a slot is free there: the same entries where one is, and else those alone that the view of the
-- history names.
abbrev pub once_free : LedgerValue → List Entry → List Entry
once_free ledger entries =
    if nat_lt ledger.journal.used ledger.journal.slots
    then entries
    else kept (number_remembered ledger.registry) (time_of ledger.registry) entries

-- it represents some history
pub record RepresentsSome (ledger : LedgerValue) : Type 0 where
  pub settings : SettingsValue
  pub history : List Entry
  pub entries : List Entry
  pub represents : Represents ledger settings history entries

-- an entry is within bounds, isn't before this time, and keeps a history calm that it comes behind
abbrev pub joins_at : SettingsValue → ℕ → List Entry → Entry → Bool
joins_at settings t history e = within_bounds e && (nat_le t e.time && joins settings history e)

-- there is a history that the ledger represents and that the entry joins
pub record CanAccept (ledger : LedgerValue) (e : Entry) : Type 0 where
  pub settings : SettingsValue
  pub history : List Entry
  pub entries : List Entry
  pub represents : Represents ledger settings history entries
  pub joins : joins_at settings (time_of ledger.registry) history e ≡ true
