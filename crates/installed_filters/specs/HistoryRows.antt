-- When the rows are those that a history comes to at a time.
use Rattle.std.specs.Prelude.{◌≡◌, ℕ, ◌*◌, ◌≤◌, Bool, true, ◌&&◌, ◌==◌, nat_le, List}
use Rattle.acl_lists.specs.declared.limits.TheConstants.{MAX_RESOLVED}
use Rattle.std.specs.List.{list_all}
use Rattle.dots_settings.specs.declared.limits.Limits.{Limits}
use Rattle.dots_history.specs.declared.entry.Entry.{Entry}
use Rattle.dots_history.specs.Bounds.{prefix_count}
use Rattle.dots_history.specs.Entries.{same_client}
use Rattle.dots_history.specs.Histories.{Mitigation, tally, mitigations, held}
use Rattle.dots_history.specs.Rows.{plain_rows, acl_rows, targets_of}
use Rattle.dots_history.specs.Capacities.{is_registration, is_list}
use Rattle.installed_filters.specs.Filters.{FiltersValue}

pub record Represents (filters : FiltersValue) (t : ℕ) (entries : List Entry) : Type 0 where
  pub scrubs : filters.scrubs ≡ plain_rows t entries
  pub acls : filters.acls ≡ acl_rows t entries

-- room for the rows of as many mitigations, of at most 128 prefixes each, and for as many lists, as the limits allow in so many domains
abbrev pub scrub_room_of : ℕ → Limits → ℕ
scrub_room_of domains limits = domains * limits.domain_mitigations * MAX_RESOLVED

abbrev pub acl_room_of : ℕ → Limits → ℕ
acl_room_of domains limits = domains * limits.clients * limits.acls

pub record HasRoom (domains : ℕ) (limits : Limits) (filters : FiltersValue) : Type 0 where
  pub scrubs : filters.scrub_room ≡ scrub_room_of domains limits
  pub acls : filters.acl_room ≡ acl_room_of domains limits

-- a mitigation has at most 128 prefixes
abbrev pub has_few_prefixes : Mitigation → Bool
has_few_prefixes m = nat_le (prefix_count (targets_of m.put.change)) MAX_RESOLVED

-- In what the history comes to at the time, no domain has more live mitigations and registered clients, and no client more
-- access lists, than the limits allow; and no live mitigation has more than 128 prefixes.
pub record KeepsLimits (limits : Limits) (t : ℕ) (entries : List Entry) : Type 0 where
  pub live : (domain : ℕ) → tally (λ (m : Mitigation). m.put.domain == domain) (mitigations t entries) ≤ limits.domain_mitigations
  pub prefixes : list_all has_few_prefixes (mitigations t entries) ≡ true
  pub registered : (domain : ℕ) → tally (λ (e : Entry). is_registration e.change && (e.domain == domain)) (held entries) ≤ limits.clients
  pub listed : (client : Entry) → tally (λ (e : Entry). is_list e.change && same_client client e) (held entries) ≤ limits.acls
