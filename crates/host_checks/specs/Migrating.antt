-- What of a journal goes over to other settings: which of the entries that its view names, and under which numbers.
use Rattle.std.specs.Prelude.{◌≡◌, ℕ, ◌≤◌, Bool, true, false, not, ◌&&◌, ◌||◌, ◌==◌, bytes_eq, if◌then◌else◌, List, [], ◌∷◌, ◌++◌, map, position, slice_get, Option, Some, None, is_some, option_map, option_and_then, option_to_list}
use Rattle.std.specs.List.{list_any, list_all, flat_map, AllByRecursion}
use Rattle.dots_settings.specs.declared.domains.DomainRow.{DomainRow}
use Rattle.dots_settings.specs.declared.limits.Limits.{Limits}
use Rattle.dots_settings.specs.Settings.{SettingsValue}
use Rattle.dots_settings.specs.declared.peer.Role.TheVariants as role
use Rattle.dots_settings.specs.Lookups.{no_domain, role_of, prefixes_of}
use Rattle.dots_history.specs.declared.entry.Entry.{Entry}
use Rattle.dots_history.specs.Entries.{same_client, put_of, ends, option_any}
use Rattle.dots_history.specs.Calm.{is_of_settings, name_inside}
use Rattle.ip_scope.specs.Prefix.{PrefixValue, inside}
use Rattle.dots_history.specs.Histories.{Mitigation, mitigations, held, remembered, alone}
use Rattle.dots_history.specs.Views.{mitigations_of}
use Rattle.dots_history.specs.Fits.{joins}

-- the number of the domain of the same name
abbrev pub number_named : SettingsValue → DomainRow → Option ℕ
number_named settings row = position (λ (other : DomainRow). bytes_eq row.name other.name) settings.domains

-- The number in the new settings of a domain of the old ones. A gateway configures its session in no domain of either.
abbrev pub number_in : SettingsValue → SettingsValue → ℕ → Option ℕ
number_in old new domain = if domain == no_domain then Some no_domain else option_and_then (number_named new) (slice_get old.domains domain)

-- the entry with this number of its domain
abbrev pub with_domain : Entry → ℕ → Entry
with_domain e domain = record {
  time = e.time;
  peer = e.peer;
  domain = domain;
  cuid = e.cuid;
  key = e.key;
  reply = e.reply;
  change = e.change;
}

-- the entry under the new settings, where they have its domain
abbrev pub carried : SettingsValue → SettingsValue → Entry → Option Entry
carried old new e = option_map (with_domain e) (number_in old new e.domain)

-- those of which the new settings have the domain
abbrev pub all_carried : SettingsValue → SettingsValue → List Entry → List Entry
all_carried old new entries = flat_map (λ e. option_to_list (carried old new e)) entries

-- the new settings have the entry's domain, and the entry is their own
abbrev pub is_still_own : SettingsValue → SettingsValue → Entry → Bool
is_still_own old new e = option_any (is_of_settings new) (carried old new e)

-- a mitigation that its client put later, and that isn't the new settings' own
abbrev pub is_lost_put : SettingsValue → SettingsValue → Entry → Entry → Bool
is_lost_put old new e later = same_client e later && (is_some (put_of later.change) && not (is_still_own old new later))

-- A later entry ended the mitigation, and its client loses one of those that it put later. Without that the mitigation might stand again.
abbrev pub might_return : SettingsValue → SettingsValue → Entry → List Entry → Bool
might_return old new e later = list_any (ends e) later && list_any (is_lost_put old new e) later

-- the entry that may be taken, of one with those after it
abbrev pub candidate : SettingsValue → SettingsValue → Entry → List Entry → Option Entry
candidate old new e later = if might_return old new e later then None else carried old new e

-- those that were taken before, and this one where it joins them
abbrev pub with_joined : SettingsValue → List Entry → Option Entry → List Entry
with_joined new before None = before
with_joined new before (Some e) = if joins new before e then before ++ e ∷ [] else before

-- those that were taken before, and of these, one after the other, each that joins
abbrev pub taken_after : SettingsValue → SettingsValue → List Entry → List Entry → List Entry
taken_after old new before [] = before
taken_after old new before (e ∷ later) = taken_after old new (with_joined new before (candidate old new e later)) later

-- what is taken of the entries that a view names
abbrev pub migrated : SettingsValue → SettingsValue → List Entry → List Entry
migrated old new entries = taken_after old new [] entries

-- no limit of what stands became less
pub record AreNoLess (old new : Limits) : Type 0 where
  pub domain_mitigations : old.domain_mitigations ≤ new.domain_mitigations
  pub client_mitigations : old.client_mitigations ≤ new.client_mitigations
  pub clients : old.clients ≤ new.clients
  pub aliases : old.aliases ≤ new.aliases
  pub acls : old.acls ≤ new.acls

-- The new settings have the domain under this number; each of these entries that is of it is their own; and no limit became less.
pub record KeepsDomain (old new : SettingsValue) (domain number : ℕ) (entries : List Entry) : Type 0 where
  pub number_is : number_in old new domain ≡ Some number
  pub own : list_all (λ (e : Entry). not (e.domain == domain) || is_of_settings new (with_domain e number)) entries ≡ true
  pub limits : AreNoLess old.limits new.limits

-- The lines that concern a domain say what they said, and maybe more: it has this number; what lay inside it does, prefixes and host names; its
-- clients are its clients, and gateways are gateways; and no limit became less.
pub record KeepsLines (old new : SettingsValue) (domain number : ℕ) : Type 0 where
  pub number_is : number_in old new domain ≡ Some number
  pub prefixes : (prefix : PrefixValue) → list_any (inside prefix) (prefixes_of old domain) ≡ true → list_any (inside prefix) (prefixes_of new number) ≡ true
  pub names : (name : List ℕ) → name_inside old (prefixes_of old domain) name ≡ true → name_inside new (prefixes_of new number) name ≡ true
  pub clients : (peer : ℕ) → role_of old peer ≡ role.Client domain → role_of new peer ≡ role.Client number
  pub gateways : (peer : ℕ) → role_of old peer ≡ role.Gateway → role_of new peer ≡ role.Gateway
  pub limits : AreNoLess old.limits new.limits

-- so do those that concern the domain of each of these entries
abbrev pub KeepsLinesOf : SettingsValue → SettingsValue → List Entry → Type 0
KeepsLinesOf old new entries = AllByRecursion (λ (e : Entry). (number : ℕ) × KeepsLines old new e.domain number) entries

-- What stands of a domain at a time is what stood, under the domain's number there: its live mitigations with what was done to them; what it holds,
-- which is registrations, aliases, access lists, session configurations and lost signals; and the replies to repeats, of the last n messages of each peer.
pub record StandsThere (n t domain number : ℕ) (history there : List Entry) : Type 0 where
  pub mitigations : mitigations_of number (mitigations t there) ≡ map (λ (m : Mitigation). record { put = with_domain m.put number; status = m.status }) (mitigations_of domain (mitigations t history))
  pub held : alone number (held there) ≡ map (λ e. with_domain e number) (alone domain (held history))
  pub replies : (peer id : ℕ) → remembered n t peer number id there ≡ option_map (λ e. with_domain e number) (remembered n t peer domain id history)
