-- What settings say of a peer, of a domain's number and of a host name.
use Rattle.std.specs.Prelude.{ℕ, ◌==◌, List, [], slice_get, unwrap_or}
use Rattle.std.specs.List.{find}
use Rattle.std.specs.Option.{option_map, option_map_or}
use Rattle.ip_scope.specs.Prefix.{PrefixValue}
use Rattle.dots_settings.specs.declared.peer.Role.{Role}
use Rattle.dots_settings.specs.declared.peer.Role.TheVariants as role
use Rattle.dots_settings.specs.Draft.{same_name}
use Rattle.dots_settings.specs.Settings.{SettingsValue}

-- the domain in which a gateway configures its session, which is no domain of the settings
abbrev pub no_domain : ℕ
no_domain = 65535

-- what a peer is: a stranger where the settings don't name it
abbrev pub role_of : SettingsValue → ℕ → Role
role_of settings peer = unwrap_or (option_map (λ row. row.role) (find (λ row. row.peer == peer) settings.peers)) role.Stranger

-- the name and the prefixes of a domain; none where there is no domain of this number
abbrev pub name_of : SettingsValue → ℕ → List ℕ
name_of settings domain = option_map_or (λ d. d.name) (slice_get settings.domains domain) []

abbrev pub prefixes_of : SettingsValue → ℕ → List PrefixValue
prefixes_of settings domain = option_map_or (λ d. d.prefixes) (slice_get settings.domains domain) []

-- the addresses of a host name, as prefixes; none where the settings don't have it
abbrev pub addresses_of : SettingsValue → List ℕ → List PrefixValue
addresses_of settings name = option_map_or (λ row. row.prefixes) (find (λ row. same_name name row.name) settings.names) []
