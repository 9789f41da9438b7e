-- For which domain a peer may ask (RFC 8811, section 2.2; RFC 9132, section 4.4.1, cdid).
use Rattle.std.specs.Prelude.{ℕ, Bool, true, false, List, position, bytes_eq, Option, Some, None}
use Rattle.dots_settings.specs.declared.peer.Role.{Role}
use Rattle.dots_settings.specs.declared.peer.Role.TheVariants as role
use Rattle.dots_settings.specs.Settings.{SettingsValue}
use Rattle.dots_settings.specs.Lookups.{no_domain}

abbrev pub is_gateway : Role → Bool
is_gateway role.Gateway = true
is_gateway _ = false

abbrev pub is_stranger : Role → Bool
is_stranger role.Stranger = true
is_stranger _ = false

-- a client's own domain, or the one that a gateway names
abbrev pub domain_for : SettingsValue → Role → Option (List ℕ) → Option ℕ
domain_for settings role.Stranger cdid = None
domain_for settings (role.Client domain) cdid = Some domain
domain_for settings role.Gateway None = None
domain_for settings role.Gateway (Some name) = position (λ domain. bytes_eq name domain.name) settings.domains

-- For which domain a peer configures its session (section 4.5): a client for its own, and a gateway for none of the settings.
abbrev pub config_domain : Role → Option ℕ
config_domain role.Stranger = None
config_domain (role.Client domain) = Some domain
config_domain role.Gateway = Some no_domain
