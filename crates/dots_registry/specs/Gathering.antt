-- Tables into which the entries of a journal are taken, before the rows of mitigations are made.
use Rattle.std.specs.Prelude.{◌≡◌, ℕ, ◌<◌, ◌^◌, max, true, List, [], map, length}
use Rattle.acl_lists.specs.declared.rows.AclRow.{AclRow}
use Rattle.dots_settings.specs.Settings.{SettingsValue}
use Rattle.dots_history.specs.declared.entry.Entry.{Entry}
use Rattle.dots_history.specs.Rows.{plain_rows, acl_rows, acl_rows_of, list_rows}
use Rattle.dots_history.specs.Fits.{last_time, is_calm}
use Rattle.installed_filters.specs.Filters.{FiltersValue}
use Rattle.dots_registry.specs.Kept.{filed}
use Rattle.dots_registry.specs.RegistryValues.{RegistryValue, IsOf, time_of}
use Rattle.dots_registry.specs.Filed.{RepresentsFiled, HasSlots}
use Rattle.dots_registry.specs.Fitting.{fits_now}

-- the tables, and of each entry that was taken its domain
pub record GatheringValue : Type 0 where
  pub tables : RegistryValue
  pub domains : List ℕ

abbrev pub domain_of : Entry → ℕ
domain_of e = e.domain

-- the rows that these entries come to at a time, in the same room
abbrev pub rows_at : ℕ → List Entry → FiltersValue → FiltersValue
rows_at t entries filters = record {
  scrub_room = filters.scrub_room;
  acl_room = filters.acl_room;
  scrubs = plain_rows t entries;
  acls = acl_rows t entries;
}

-- the tables with the rows that these entries come to at their time
abbrev pub with_rows_of : List Entry → RegistryValue → RegistryValue
with_rows_of entries tables = record {
  live = tables.live;
  held = tables.held;
  rings = tables.rings;
  filters = rows_at (time_of tables) entries tables.filters;
  last = tables.last;
}

-- the rows of the lists that are held, as they are where nobody mitigates
abbrev pub lists_at_rest : List Entry → List AclRow
lists_at_rest entries = acl_rows_of 0 [] (list_rows entries)

-- The tables are those of these entries, each in the slot of its place, but that they have no row of a mitigation, and that no list is
-- active for one.
pub record AwaitsRows (entries : List Entry) (tables : RegistryValue) : Type 0 where
  pub represents_filed : RepresentsFiled (with_rows_of entries tables) (filed entries)
  pub room : HasSlots tables
  pub scrubs : tables.filters.scrubs ≡ []
  pub lists : tables.filters.acls ≡ lists_at_rest entries

-- these entries were taken
pub record Gathers (entries : List Entry) (gathering : GatheringValue) : Type 0 where
  pub awaits : AwaitsRows entries gathering.tables
  pub domains : gathering.domains ≡ map domain_of entries

-- and they are calm by the settings of which the tables are, whose time is that of the last one
pub record HasGathered (settings : SettingsValue) (entries : List Entry) (gathering : GatheringValue) : Type 0 where
  pub gathers : Gathers entries gathering
  pub is_of : IsOf settings gathering.tables
  pub calm : is_calm settings entries ≡ true
  pub time : time_of gathering.tables ≡ last_time entries

-- there are such entries
pub record HasGatheredSome (settings : SettingsValue) (gathering : GatheringValue) : Type 0 where
  pub entries : List Entry
  pub gathered : HasGathered settings entries gathering

pub record GathersSome (gathering : GatheringValue) : Type 0 where
  pub settings : SettingsValue
  pub entries : List Entry
  pub is_of : IsOf settings gathering.tables
  pub gathers : Gathers entries gathering
  pub few : length entries < 2 ^ 32

-- there are entries of which they are the tables, and which the entry fits
pub record FitsSome (tables : RegistryValue) (e : Entry) : Type 0 where
  pub settings : SettingsValue
  pub entries : List Entry
  pub is_of : IsOf settings tables
  pub awaits : AwaitsRows entries tables
  pub fits : fits_now settings tables entries e ≡ true

-- These are the tables of a registry of these settings for calm entries, each in the slot of its place, at the greater of this time and that
-- of the last one.
pub record IsReady (settings : SettingsValue) (entries : List Entry) (at : ℕ) (tables : RegistryValue) : Type 0 where
  pub is_of : IsOf settings tables
  pub represents_filed : RepresentsFiled tables (filed entries)
  pub room : HasSlots tables
  pub calm : is_calm settings entries ≡ true
  pub time : time_of tables ≡ max at (last_time entries)
