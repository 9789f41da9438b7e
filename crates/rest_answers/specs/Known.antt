-- What a history comes to at a time for a request of the data channel (RFC 8783, sections 5 to 7).
use Rattle.std.specs.Prelude.{ℕ, Bool, false, ◌&&◌, ◌==◌, not, nat_lt, List, Option, Some, is_some}
use Rattle.acl_lists.specs.declared.alias.Alias.{Alias}
use Rattle.acl_lists.specs.declared.acl.Acl.{Acl}
use Rattle.dots_settings.specs.declared.limits.Limits.{Limits}
use Rattle.dots_settings.specs.Settings.{SettingsValue}
use Rattle.dots_settings.specs.Lookups.{prefixes_of}
use Rattle.conflict_rules.specs.AskableTargets.{scope_fault, list_fault}
use Rattle.dots_history.specs.declared.entry.Entry.{Entry}
use Rattle.dots_history.specs.Histories.{tally, held}
use Rattle.dots_history.specs.Capacities.{is_registration, is_alias, is_list}
use Rattle.dots_history.specs.Tables.{Client, is_of}
use Rattle.dots_history.specs.Held.{aliases_of, acls_of, alias_named, acl_named, is_registered}
use Rattle.conflict_rules.specs.ByHistory.{collides}
use Rattle.data_channel.specs.declared.request.RestRequest.{RestRequest}
use Rattle.data_channel.specs.declared.request.RestRequest.TheVariants as request
use Rattle.data_channel.specs.declared.asking.RestKind.{RestKind}
use Rattle.data_channel.specs.declared.asking.RestKind.TheVariants as kind
use Rattle.data_channel.specs.declared.facts.RestFacts.{RestFacts}
use Rattle.data_channel.specs.Asking.{kind_of, cuid_of, name_of}
use Rattle.rest_answers.specs.declared.caller.Caller.{Caller}

-- the client that a request is about, or below which it is
abbrev pub client_for : Caller → RestRequest → Client
client_for caller asked = record { domain = caller.domain; cuid = cuid_of asked }

-- it writes what may not be asked for in the domain of this number
abbrev pub is_faulty : SettingsValue → ℕ → RestRequest → Bool
is_faulty settings domain (request.PutAlias cuid alias) = is_some (scope_fault settings (prefixes_of settings domain) alias.asked)
is_faulty settings domain (request.PostAlias cuid alias) = is_some (scope_fault settings (prefixes_of settings domain) alias.asked)
is_faulty settings domain (request.PutAcl cuid acl) = is_some (list_fault (prefixes_of settings domain) acl)
is_faulty settings domain (request.PostAcl cuid acl) = is_some (list_fault (prefixes_of settings domain) acl)
is_faulty settings domain _ = false

-- what it is about is there, in what is held: the client, or its alias or access list of a name
abbrev pub is_there : RestKind → Option (List ℕ) → Client → List Entry → Bool
is_there kind.Alias (Some name) client held_now = is_some (alias_named name (aliases_of client held_now))
is_there kind.Acl (Some name) client held_now = is_some (acl_named name (acls_of client held_now))
is_there _ _ client held_now = is_registered client held_now

-- how many registered clients the domain has, how many aliases the client, and how many access lists
abbrev pub number_of : RestKind → Client → List Entry → ℕ
number_of kind.Client client held_now = tally (λ e. is_registration e.change && (e.domain == client.domain)) held_now
number_of kind.Alias client held_now = tally (λ e. is_alias e.change && is_of client e) held_now
number_of kind.Aliases client held_now = tally (λ e. is_alias e.change && is_of client e) held_now
number_of kind.Acl client held_now = tally (λ e. is_list e.change && is_of client e) held_now
number_of kind.Acls client held_now = tally (λ e. is_list e.change && is_of client e) held_now

-- how many there may be
abbrev pub most_of : Limits → RestKind → ℕ
most_of limits kind.Client = limits.clients
most_of limits kind.Alias = limits.aliases
most_of limits kind.Aliases = limits.aliases
most_of limits kind.Acl = limits.acls
most_of limits kind.Acls = limits.acls

abbrev pub is_full : Limits → RestKind → Client → List Entry → Bool
is_full limits about client held_now = not (nat_lt (number_of about client held_now) (most_of limits about))

-- **what is known of a request at time t**
abbrev pub facts_of : SettingsValue → ℕ → List Entry → Caller → RestRequest → RestFacts
facts_of settings t history caller asked = record {
  fault = is_faulty settings caller.domain asked;
  taken = collides t history caller.peer (client_for caller asked);
  registered = is_registered (client_for caller asked) (held history);
  there = is_there (kind_of asked) (name_of asked) (client_for caller asked) (held history);
  full = is_full settings.limits (kind_of asked) (client_for caller asked) (held history);
}

-- that, with the time, and with what is shown of the client: its aliases and its access lists, in order of writing
pub record Known : Type 0 where
  pub time : ℕ
  pub facts : RestFacts
  pub aliases : List Alias
  pub acls : List Acl

abbrev pub known_of : SettingsValue → ℕ → List Entry → Caller → RestRequest → Known
known_of settings t history caller asked = record {
  time = t;
  facts = facts_of settings t history caller asked;
  aliases = aliases_of (client_for caller asked) (held history);
  acls = acls_of (client_for caller asked) (held history);
}
