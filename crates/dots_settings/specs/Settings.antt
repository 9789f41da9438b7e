-- The settings that the rows of a file give.
use Rattle.std.specs.Prelude.{◌≡◌, ◌≢◌, ℕ, ◌<◌, ◌≤◌, ◌^◌, ⊤, Bool, true, false, if◌then◌else◌, List, [], ◌∷◌, ◌++◌, length, map, filter, position, bytes_eq, count_by, ◌==◌, slice_get, unwrap_or, Option, Some, None, Contains}
use Rattle.std.specs.List.{find, flat_map, list_any, AllByRecursion}
use Rattle.std.specs.Option.{option_map}
use Rattle.sha2.specs.Sha256.{sha256}
use Rattle.ip_scope.specs.Prefix.{PrefixValue, meets}
use Rattle.acl_lists.specs.declared.packet.Packet.{Packet}
use Rattle.dots_settings.specs.declared.capacity.Capacity.{Capacity}
use Rattle.dots_settings.specs.declared.capacity.Capacity.TheVariants as capacities
use Rattle.dots_settings.specs.declared.domains.DomainRow.{DomainRow}
use Rattle.dots_settings.specs.declared.limits.Limits.{Limits}
use Rattle.dots_settings.specs.declared.peer.PeerRow.{PeerRow}
use Rattle.dots_settings.specs.declared.peer.Role.{Role}
use Rattle.dots_settings.specs.declared.peer.Role.TheVariants as role
use Rattle.dots_settings.specs.declared.names.NameRow.{NameRow}
use Rattle.dots_settings.specs.Capacity.{default_of, greatest_of, same_capacity}
use Rattle.dots_settings.specs.Form.{FormValue, packet_line}
use Rattle.dots_settings.specs.Row.{Row}
use Rattle.dots_settings.specs.declared.draft.Peer.{Peer}
use Rattle.dots_settings.specs.Draft.{DraftValue, same_name, draft_of}

pub record SettingsValue : Type 0 where
  -- a domain has its place here as its number
  pub domains : List DomainRow
  pub peers : List PeerRow
  -- the peer that a gateway asks; the server leaves it aside
  pub upstream : Option ℕ
  pub names : List NameRow
  -- in seconds
  pub ceiling : ℕ
  pub indefinite : Bool
  pub limits : Limits
  pub packets : List Packet
  -- how many lines the file has, those that are skipped too
  pub lines : ℕ
  pub digest : List ℕ

-- the prefixes of a domain, in the file's order
abbrev pub draft_prefixes : DraftValue → List ℕ → List PrefixValue
draft_prefixes draft name = map (λ scope. scope.prefix) (filter (λ scope. bytes_eq scope.domain name) draft.scopes)

abbrev pub domain_of : DraftValue → List ℕ → DomainRow
domain_of draft name = record { name = name; prefixes = draft_prefixes draft name }

-- the number of a client's domain; each is declared, so none is a stranger
abbrev pub draft_role : DraftValue → Option (List ℕ) → Role
draft_role draft None = role.Gateway
draft_role draft (Some name) = unwrap_or (option_map role.Client (position (bytes_eq name) draft.domains)) role.Stranger

abbrev pub peer_row_of : DraftValue → Peer → PeerRow
peer_row_of draft peer = record { peer = peer.number; role = draft_role draft peer.domain }

-- the prefixes of a host name, in the file's order
abbrev pub draft_addresses : DraftValue → List ℕ → List PrefixValue
draft_addresses draft fqdn = map (λ address. address.prefix) (filter (λ address. same_name fqdn address.name) draft.addresses)

abbrev pub name_row_of : DraftValue → List ℕ → NameRow
name_row_of draft fqdn = record { name = fqdn; prefixes = draft_addresses draft fqdn }

abbrev pub limit_of : DraftValue → Capacity → ℕ
limit_of draft what = unwrap_or (option_map (λ chosen. chosen.limit) (find (λ chosen. same_capacity chosen.what what) draft.capacities)) (default_of what)

abbrev pub limits_of : DraftValue → Limits
limits_of draft = record {
  client_mitigations = limit_of draft capacities.ClientMitigations;
  domain_mitigations = limit_of draft capacities.DomainMitigations;
  clients = limit_of draft capacities.Clients;
  aliases = limit_of draft capacities.Aliases;
  acls = limit_of draft capacities.Acls;
  remembered = limit_of draft capacities.Remembered;
  observers = limit_of draft capacities.Observers;
}

-- what the digest is of: the rows that are no packets, each with one line feed
abbrev pub is_packet : FormValue → Bool
is_packet (packet_line value) = true
is_packet _ = false

abbrev pub hashed_of : Row → List ℕ
hashed_of row = if is_packet row.form then [] else row.text ++ 10 ∷ []

abbrev pub digest_text : List Row → List ℕ
digest_text rows = flat_map hashed_of rows

-- where no line says otherwise the ceiling is 86400 seconds, and -1 isn't granted
abbrev pub settings_by : DraftValue → ℕ → List ℕ → SettingsValue
settings_by draft lines digest = record {
  domains = map (domain_of draft) draft.domains;
  peers = map (peer_row_of draft) draft.peers;
  upstream = draft.upstream;
  names = map (name_row_of draft) draft.names;
  ceiling = unwrap_or draft.ceiling 86400;
  indefinite = unwrap_or draft.indefinite false;
  limits = limits_of draft;
  packets = draft.packets;
  lines = lines;
  digest = digest;
}

-- those of so many lines, which have these rows
abbrev pub settings_of : ℕ → List Row → SettingsValue
settings_of lines rows = settings_by (draft_of rows) lines (sha256 (digest_text rows))

-- ---- what holds of all settings

-- no prefix of a domain meets one of another
abbrev pub AreApart : List DomainRow → Type 0
AreApart domains = (one other : ℕ) (first second : DomainRow) (a b : PrefixValue) → one ≢ other
    → slice_get domains one ≡ Some first → slice_get domains other ≡ Some second
    → Contains first.prefixes a → Contains second.prefixes b → meets a b ≡ false

-- a client is of one of so many domains
abbrev pub IsKnown : ℕ → Role → Type 0
IsKnown count (role.Client number) = number < count
IsKnown count role.Gateway = ⊤
IsKnown count role.Stranger = ⊤

abbrev pub IsInRange : Capacity → ℕ → Type 0
IsInRange what limit = (1 ≤ limit) × (limit ≤ greatest_of what)

-- each capacity is in its range
pub record AreLimits (limits : Limits) : Type 0 where
  pub client_mitigations : IsInRange capacities.ClientMitigations limits.client_mitigations
  pub domain_mitigations : IsInRange capacities.DomainMitigations limits.domain_mitigations
  pub clients : IsInRange capacities.Clients limits.clients
  pub aliases : IsInRange capacities.Aliases limits.aliases
  pub acls : IsInRange capacities.Acls limits.acls
  pub remembered : IsInRange capacities.Remembered limits.remembered
  pub observers : IsInRange capacities.Observers limits.observers

abbrev pub IsNoStranger : Role → Type 0
IsNoStranger (role.Client number) = ⊤
IsNoStranger role.Gateway = ⊤
IsNoStranger role.Stranger = ⊥

abbrev pub is_gateway_role : Role → Bool
is_gateway_role role.Gateway = true
is_gateway_role _ = false

-- none of the clients and gateways is the upstream
abbrev pub IsNoPeer : List PeerRow → Option ℕ → Type 0
IsNoPeer peers None = ⊤
IsNoPeer peers (Some upstream) = list_any (λ row. row.peer == upstream) peers ≡ false

-- Every list is within its limit, and nothing stands in it twice; host names are the same whatever the case of their
-- letters. The ceiling and the capacities are in their ranges.
pub record IsSettings (settings : SettingsValue) : Type 0 where
  pub few : length settings.domains ≤ 16
  pub domain_once : (name : List ℕ) → count_by (λ domain. bytes_eq name domain.name) settings.domains ≤ 1
  pub few_prefixes : AllByRecursion (λ domain. length domain.prefixes ≤ 16) settings.domains
  pub apart : AreApart settings.domains
  pub few_peers : length settings.peers ≤ 64
  pub few_gateways : count_by (λ row. is_gateway_role row.role) settings.peers ≤ 4
  pub peer_once : (peer : ℕ) → count_by (λ row. row.peer == peer) settings.peers ≤ 1
  pub known : AllByRecursion (λ row. IsKnown (length settings.domains) row.role) settings.peers
  pub no_stranger : AllByRecursion (λ row. IsNoStranger row.role) settings.peers
  pub no_peer : IsNoPeer settings.peers settings.upstream
  pub few_names : length settings.names ≤ 64
  pub name_once : (fqdn : List ℕ) → count_by (λ row. same_name fqdn row.name) settings.names ≤ 1
  pub addresses : AllByRecursion (λ row. (1 ≤ length row.prefixes) × (length row.prefixes ≤ 4)) settings.names
  pub some_ceiling : 1 ≤ settings.ceiling
  pub most_ceiling : settings.ceiling ≤ 604800
  pub limits : AreLimits settings.limits
  pub few_packets : length settings.packets ≤ 256
  pub few_lines : settings.lines ≤ 2 ^ 16
