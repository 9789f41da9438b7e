-- When the rows of mitigations are made of the tables of a history.
use Rattle.std.specs.Prelude.{◌≡◌, ℕ, ◌<◌, ◌^◌, Bool, List, [], map, length, Option, Some, None}
use Rattle.dots_history.specs.declared.entry.Entry.{Entry}
use Rattle.dots_history.specs.Histories.{Mitigation}
use Rattle.live_mitigations.specs.LiveValues.{LiveValue, SlotsAre}
use Rattle.live_mitigations.specs.LiveValues as lives
use Rattle.held_resources.specs.Tables.{Tables}
use Rattle.held_resources.specs.Tables as things
use Rattle.installed_filters.specs.Filters.{FiltersValue, filters_more}
use Rattle.installed_filters.specs.HistoryRows.{KeepsLimits, scrub_room_of}
use Rattle.dots_registry.specs.Kept.{filed}
use Rattle.dots_registry.specs.Gathering.{domain_of, lists_at_rest}

-- The tables are those of these entries, each in the slot of its place, and the domains are theirs; there is room for all rows, and of
-- mitigations there are none yet.
pub record Awaits (entries : List Entry) (live : LiveValue) (held : Tables) (domains : List ℕ) (filters : FiltersValue) : Type 0 where
  pub alive : lives.Represents live entries
  pub slots : SlotsAre live.time live.tables (filed entries)
  pub kept : things.Represents held entries
  pub limits : KeepsLimits live.limits live.time entries
  pub domains_are : domains ≡ map domain_of entries
  pub room : filters.scrub_room ≡ scrub_room_of live.domains live.limits
  pub scrubs : filters.scrubs ≡ []
  pub lists : filters.acls ≡ lists_at_rest entries

-- of some entries, which are fewer than 2^32
pub record AwaitsSome (live : LiveValue) (held : Tables) (domains : List ℕ) (filters : FiltersValue) : Type 0 where
  pub entries : List Entry
  pub awaits : Awaits entries live held domains filters
  pub few : length domains < 2 ^ 32

-- with the rows of a mitigation, where one was found
abbrev pub filters_found : (ℕ → ℕ → Bool) → Option Mitigation → FiltersValue → FiltersValue
filters_found lost None filters = filters
filters_found lost (Some m) filters = filters_more lost m filters
