-- When the entries of a history stand in slots of a journal, and how many of them a compaction keeps.
use Rattle.std.specs.Prelude.{◌≡◌, ℕ, ◌≤◌, Bool, true, ◌&&◌, List, map}
use Rattle.std.specs.List.{list_all}
use Rattle.dots_history.specs.declared.entry.Entry.{Entry}
use Rattle.dots_history.specs.Entries.{same_client}
use Rattle.dots_history.specs.Histories.{tally, held}
use Rattle.dots_history.specs.Capacities.{Capacities, is_alias, most_named}
use Rattle.dots_history.specs.Calm.{numbers_from}
use Rattle.dots_history.specs.Filed.{Filed, entry_of}
use Rattle.held_resources.specs.Tables.{is_known}
use Rattle.coap_exchange.specs.Rings.{RingValue}
use Rattle.dots_registry.specs.Kept.{KeptValue, AreOf}
use Rattle.dots_registry.specs.RegistryValues.{RegistryValue, Represents, time_of, domains_of, limits_of, number_remembered}

abbrev pub actor_of : RingValue → ℕ × ℕ
actor_of ring = (ring.pair.peer, ring.pair.domain)

-- how much a history may come to that it represents
abbrev pub capacities_in : RegistryValue → Capacities
capacities_in registry = record {
  actors = map actor_of registry.rings;
  peers = registry.held.sizes.peers;
  domains = numbers_from 0 registry.held.sizes.domains;
  losers = registry.held.sizes.own;
  mitigations = (limits_of registry).domain_mitigations;
  clients = (limits_of registry).clients;
  aliases = (limits_of registry).aliases;
  acls = (limits_of registry).acls;
}

-- how many entries a compaction keeps at most
abbrev pub most_kept : RegistryValue → ℕ
most_kept registry = most_named (capacities_in registry) (number_remembered registry)

-- an alias of this client is written
abbrev pub is_alias_of : Entry → Entry → Bool
is_alias_of client e = is_alias e.change && same_client client e

-- the slots that it keeps, but for those of the messages
abbrev pub slots_kept : RegistryValue → KeptValue
slots_kept registry = record { tables = registry.live.tables; rows = registry.held.slots; last = registry.last }

-- It represents a history whose entries stand in slots: it represents the history; the slots that are kept are those of the entries of
-- which it has what is left; and the entries are of its domains and peers, and leave no client more aliases than there may be.
pub record RepresentsFiled (registry : RegistryValue) (filed : List Filed) : Type 0 where
  pub represents : Represents registry (map entry_of filed)
  pub slots : AreOf (number_remembered registry) (time_of registry) (slots_kept registry) registry.rings filed
  pub known : list_all (is_known registry.held.sizes) (map entry_of filed) ≡ true
  pub aliased : (client : Entry) → tally (is_alias_of client) (held (map entry_of filed)) ≤ (limits_of registry).aliases

-- There is room for the slots of as many things as may be held.
pub record HasSlots (registry : RegistryValue) : Type 0 where
  pub domains : registry.held.sizes.domains ≡ domains_of registry
  pub held : registry.held.slots.room ≡ most_named (capacities_in registry) 0

-- There are entries in slots that it represents, and it has room for the slots.
pub record IsFiled (registry : RegistryValue) : Type 0 where
  pub filed : List Filed
  pub represents : RepresentsFiled registry filed
  pub room : HasSlots registry
