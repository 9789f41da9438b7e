-- What the targets of a request come to (RFC 9132, section 4.4.1: target-prefix, target-fqdn, alias-name).
use Rattle.std.specs.Prelude.{ℕ, Bool, bytes_eq, is_none, if◌then◌else◌, List, [], ◌∷◌, ◌++◌, Option, option_map, option_to_list}
use Rattle.std.specs.List.{flat_map, find}
use Rattle.ip_scope.specs.Prefix.{PrefixValue}
use Rattle.acl_lists.specs.declared.alias.Alias.{Alias}
use Rattle.acl_lists.specs.declared.asked.Asked.{Asked}
use Rattle.dots_settings.specs.Settings.{SettingsValue}
use Rattle.dots_settings.specs.Lookups.{addresses_of}
use Rattle.dots_history.specs.declared.put.Target.{Target}
use Rattle.dots_history.specs.Histories.{is_nil}

-- the asked prefixes, and those of the asked host names in order
abbrev pub prefixes_asked : SettingsValue → Asked → List PrefixValue
prefixes_asked settings asked = asked.prefixes ++ flat_map (addresses_of settings) asked.names

-- these, with the asked ports and protocols
abbrev pub target_of : SettingsValue → Asked → Target
target_of settings asked =
    record { prefixes = prefixes_asked settings asked; ports = asked.ports; protocols = asked.protocols }

-- of a request itself there is a target where it has a prefix
abbrev pub own_target : SettingsValue → Asked → List Target
own_target settings asked = if is_nil (prefixes_asked settings asked) then [] else target_of settings asked ∷ []

-- the alias of this name
abbrev pub alias_named : List ℕ → List Alias → Option Alias
alias_named name aliases = find (λ (alias : Alias). bytes_eq name alias.name) aliases

abbrev pub is_unknown : List Alias → List ℕ → Bool
is_unknown aliases name = is_none (alias_named name aliases)

-- that of an alias, with its own prefixes, host names, ports and protocols
abbrev pub alias_target : SettingsValue → List Alias → List ℕ → List Target
alias_target settings aliases name =
    option_to_list (option_map (λ (alias : Alias). target_of settings alias.asked) (alias_named name aliases))

-- the targets: first the request's own, then one of each alias, in order
abbrev pub targets_of : SettingsValue → List Alias → Asked → List Target
targets_of settings aliases asked =
    own_target settings asked ++ flat_map (alias_target settings aliases) asked.aliases
