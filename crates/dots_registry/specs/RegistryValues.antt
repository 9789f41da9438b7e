-- When what a registry keeps is what a history comes to at a time.
use Rattle.std.specs.Prelude.{◌≡◌, ℕ, Bool, true, not, ◌||◌, if◌then◌else◌, List, [], map, length, Option}
use Rattle.std.specs.List.{list_any, list_all}
use Rattle.dots_settings.specs.declared.limits.Limits.{Limits}
use Rattle.dots_settings.specs.Settings.{SettingsValue}
use Rattle.dots_history.specs.declared.entry.Entry.{Entry}
use Rattle.dots_history.specs.Entries.{is_signal}
use Rattle.live_mitigations.specs.LiveValues.{LiveValue}
use Rattle.live_mitigations.specs.LiveValues as live
use Rattle.held_resources.specs.Tables.{Tables, sizes_of}
use Rattle.held_resources.specs.Tables as held
use Rattle.installed_filters.specs.Filters.{FiltersValue}
use Rattle.installed_filters.specs.HistoryRows.{HasRoom, KeepsLimits}
use Rattle.installed_filters.specs.HistoryRows as filters
use Rattle.coap_exchange.specs.declared.pair.Pair.{Pair}
use Rattle.coap_exchange.specs.Pairs.{pairs_of}
use Rattle.coap_exchange.specs.Rings.{RingValue, is_ring_of, noted}
use Rattle.coap_exchange.specs.Noting.{AllRemember, message_of}

-- What is kept: the live mitigations with the time at which they are, the registrations, aliases, access lists and
-- session configurations, the last messages of each peer and domain, the rows that filter, and the slot of a journal in which the last
-- entry stands. Those of the other entries of which this is what is left stand beside it.
pub record RegistryValue : Type 0 where
  pub live : LiveValue
  pub held : Tables
  pub rings : List RingValue
  pub filters : FiltersValue
  pub last : Option ℕ

abbrev pub time_of : RegistryValue → ℕ
time_of registry = registry.live.time

-- how many domains there are, and how much there may be
abbrev pub domains_of : RegistryValue → ℕ
domains_of registry = registry.live.domains

abbrev pub limits_of : RegistryValue → Limits
limits_of registry = registry.live.limits

-- how many messages of a peer and domain are remembered
abbrev pub number_remembered : RegistryValue → ℕ
number_remembered registry = (limits_of registry).remembered

-- a signal entry is of a peer and domain whose messages are remembered
abbrev pub has_ring : List RingValue → Entry → Bool
has_ring rings e = not (is_signal e.change) || list_any (is_ring_of e.peer e.domain) rings

-- It represents a history at its time: the live mitigations of each domain are those of the history at this time; held is what
-- the history leaves held; of each peer and domain that it has a ring for, the last so many messages of the history are
-- remembered; each signal entry of the history is of one of these; the rows are those of the history at this time; and the
-- history keeps the limits.
pub record Represents (registry : RegistryValue) (entries : List Entry) : Type 0 where
  pub live : live.Represents registry.live entries
  pub held : held.Represents registry.held entries
  pub remembered : AllRemember (number_remembered registry) registry.rings entries
  pub signalled : list_all (has_ring registry.rings) entries ≡ true
  pub filters : filters.Represents registry.filters (time_of registry) entries
  pub limits : KeepsLimits (limits_of registry) (time_of registry) entries

-- ---- settings

abbrev pub pair_of : RingValue → Pair
pair_of ring = ring.pair

-- The registry is of these settings: it has their domains, their capacities, their peers, and each pair of a peer and a
-- domain that it may act for, and room for the rows.
pub record IsOf (settings : SettingsValue) (registry : RegistryValue) : Type 0 where
  pub domains : domains_of registry ≡ length settings.domains
  pub limits : limits_of registry ≡ settings.limits
  pub sizes : registry.held.sizes ≡ sizes_of settings
  pub pairs : map pair_of registry.rings ≡ pairs_of settings
  pub filters : HasRoom (length settings.domains) settings.limits registry.filters

-- both have the same domains, capacities and peers, at the same time
pub record SameSize (a b : RegistryValue) : Type 0 where
  pub domains : domains_of a ≡ domains_of b
  pub limits : limits_of a ≡ limits_of b
  pub time : time_of a ≡ time_of b
  pub sizes : a.held.sizes ≡ b.held.sizes

-- ---- what an entry gives to the messages

-- an entry with this reply
abbrev pub answered : List ℕ → Entry → Entry
answered reply e = record {
  time = e.time;
  peer = e.peer;
  domain = e.domain;
  cuid = e.cuid;
  key = e.key;
  reply = reply;
  change = e.change;
}

-- an entry without its reply
abbrev pub silent : Entry → Entry
silent e = answered [] e

-- the message of a signal entry is remembered with the slot in which its entry stands
abbrev pub rings_with : ℕ → Entry → List RingValue → List RingValue
rings_with slot e rings = if is_signal e.change then noted e.peer e.domain (message_of slot e) rings else rings
