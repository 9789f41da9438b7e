-- What settings come to, in lines.
use Rattle.std.specs.Prelude.{ℕ, Bool, true, false, Option, Some, None, List, [], ◌++◌, length, flat_map, codes, decimal, count_by}
use Rattle.dots_settings.specs.declared.limits.Limits.{Limits}
use Rattle.dots_settings.specs.declared.peer.Role.{Role}
use Rattle.dots_settings.specs.declared.peer.Role.TheVariants as role
use Rattle.dots_settings.specs.Settings.{SettingsValue}
use Rattle.dots_settings.specs.declared.domains.DomainRow.{DomainRow}

-- `what: N`
abbrev pub count_line : List ℕ → ℕ → List ℕ
count_line what number = what ++ codes ": " ++ decimal number ++ codes "\n"

-- `prefixes of NAME: N`
abbrev pub prefixes_line : DomainRow → List ℕ
prefixes_line domain = codes "prefixes of " ++ domain.name ++ codes ": " ++ decimal (length domain.prefixes) ++ codes "\n"

abbrev pub is_client : Role → Bool
is_client (role.Client number) = true
is_client _ = false

abbrev pub is_gateway : Role → Bool
is_gateway role.Gateway = true
is_gateway _ = false

abbrev pub granted_line : Bool → List ℕ
granted_line true = codes "lifetimes without end: yes\n"
granted_line false = codes "lifetimes without end: no\n"

abbrev pub mitigation_limits : Limits → List ℕ
mitigation_limits limits = count_line (codes "client-mitigations") limits.client_mitigations ++ count_line (codes "domain-mitigations") limits.domain_mitigations

abbrev pub client_limits : Limits → List ℕ
client_limits limits =
    count_line (codes "clients of a domain") limits.clients
    ++ count_line (codes "aliases") limits.aliases
    ++ count_line (codes "acls") limits.acls

abbrev pub message_limits : Limits → List ℕ
message_limits limits = count_line (codes "remembered") limits.remembered ++ count_line (codes "observers") limits.observers

unfoldable pub limits_lines : Limits → List ℕ
limits_lines limits = mitigation_limits limits ++ client_limits limits ++ message_limits limits

abbrev pub domains_lines : SettingsValue → List ℕ
domains_lines settings = count_line (codes "domains") (length settings.domains) ++ flat_map prefixes_line settings.domains

-- `upstream: PEER`, where there is one
abbrev pub upstream_lines : Option ℕ → List ℕ
upstream_lines None = []
upstream_lines (Some peer) = count_line (codes "upstream") peer

abbrev pub people_lines : SettingsValue → List ℕ
people_lines settings =
    count_line (codes "clients") (count_by (λ row. is_client row.role) settings.peers)
    ++ count_line (codes "gateways") (count_by (λ row. is_gateway row.role) settings.peers)
    ++ upstream_lines settings.upstream
    ++ count_line (codes "host names") (length settings.names)

abbrev pub lifetimes_lines : SettingsValue → List ℕ
lifetimes_lines settings = count_line (codes "ceiling in seconds") settings.ceiling ++ granted_line settings.indefinite

abbrev pub amounts_lines : Limits → ℕ → List ℕ
amounts_lines limits packets = limits_lines limits ++ count_line (codes "sample packets") packets

abbrev pub summary : SettingsValue → List ℕ
summary settings = domains_lines settings ++ people_lines settings ++ lifetimes_lines settings ++ amounts_lines settings.limits (length settings.packets)
