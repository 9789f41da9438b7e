-- When the clients of a history keep the limits that are a client's own.
use Rattle.std.specs.Prelude.{ℕ, ◌≤◌, ◌&&◌, List}
use Rattle.dots_settings.specs.declared.limits.Limits.{Limits}
use Rattle.dots_history.specs.declared.entry.Entry.{Entry}
use Rattle.dots_history.specs.Entries.{same_client}
use Rattle.dots_history.specs.Histories.{Mitigation, tally, mitigations, held}
use Rattle.dots_history.specs.Capacities.{is_alias}

-- In what the history comes to at the time no client has more live mitigations, and no client more aliases, than the limits
-- allow. The limits of the domains and of the access lists are those that a registry's `Represents` says.
pub record ClientsKeepLimits (limits : Limits) (t : ℕ) (entries : List Entry) : Type 0 where
  pub live : (client : Entry) → tally (λ (m : Mitigation). same_client client m.put) (mitigations t entries) ≤ limits.client_mitigations
  pub aliased : (client : Entry) → tally (λ (e : Entry). is_alias e.change && same_client client e) (held entries) ≤ limits.aliases
