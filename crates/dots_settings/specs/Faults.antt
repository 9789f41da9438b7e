-- What is wrong with a line that has a form, by what the lines before it have said. Where several things are, the first
-- of them is told: what stands a second time, what isn't declared, what overlaps, what is too much.
use Rattle.std.specs.Prelude.{ℕ, Bool, false, not, ◌==◌, ◌&&◌, ◌||◌, nat_le, if◌then◌else◌, List, length, bytes_eq, count_by, Option, Some, None, is_some, is_none}
use Rattle.std.specs.List.{list_any, find}
use Rattle.std.specs.Option.{option_map}
use Rattle.ip_scope.specs.Prefix.{PrefixValue, meets}
use Rattle.dots_settings.specs.declared.fault.SettingsFault.{SettingsFault}
use Rattle.dots_settings.specs.declared.fault.SettingsFault.TheVariants as fault
use Rattle.dots_settings.specs.declared.capacity.Capacity.{Capacity}
use Rattle.dots_settings.specs.Capacity.{same_capacity}
use Rattle.dots_settings.specs.Form.{FormValue, domain_line, prefix_line, client_line, gateway_line, upstream_line, name_line, ceiling_line, indefinite_line, capacity_line, packet_line}
use Rattle.dots_settings.specs.declared.draft.Peer.{Peer}
use Rattle.dots_settings.specs.declared.draft.Scope.{Scope}
use Rattle.dots_settings.specs.Draft.{DraftValue, same_name}

abbrev pub has_domain : DraftValue → List ℕ → Bool
has_domain before name = list_any (bytes_eq name) before.domains

abbrev pub has_peer : DraftValue → ℕ → Bool
has_peer before number = list_any (λ peer. peer.number == number) before.peers

abbrev pub is_upstream : Option ℕ → ℕ → Bool
is_upstream None number = false
is_upstream (Some upstream) number = number == upstream

-- a client, a gateway or the upstream has this number
abbrev pub is_declared : DraftValue → ℕ → Bool
is_declared before number = has_peer before number || is_upstream before.upstream number

abbrev pub has_capacity : DraftValue → Capacity → Bool
has_capacity before what = list_any (λ chosen. same_capacity chosen.what what) before.capacities

abbrev pub has_name : DraftValue → List ℕ → Bool
has_name before fqdn = list_any (same_name fqdn) before.names

-- what the line gives stands already: a domain, a peer, the upstream, the ceiling, whether -1 is granted, or one capacity
abbrev pub is_twice : DraftValue → FormValue → Bool
is_twice before (domain_line name) = has_domain before name
is_twice before (client_line peer name) = is_declared before peer
is_twice before (gateway_line peer) = is_declared before peer
is_twice before (upstream_line peer) = is_some before.upstream || has_peer before peer
is_twice before (ceiling_line seconds) = is_some before.ceiling
is_twice before (indefinite_line granted) = is_some before.indefinite
is_twice before (capacity_line what limit) = has_capacity before what
is_twice before _ = false

-- the domain of the line isn't declared above
abbrev pub is_unknown : DraftValue → FormValue → Bool
is_unknown before (prefix_line name value) = not (has_domain before name)
is_unknown before (client_line peer name) = not (has_domain before name)
is_unknown before _ = false

-- a prefix of another domain, which meets this one
abbrev pub is_overlap : List ℕ → PrefixValue → Scope → Bool
is_overlap name value scope = not (bytes_eq scope.domain name) && meets scope.prefix value

-- the first line whose prefix is such a one
abbrev pub overlap_of : DraftValue → FormValue → Option ℕ
overlap_of before (prefix_line name value) = option_map (λ scope. scope.line) (find (is_overlap name value) before.scopes)
overlap_of before _ = None

abbrev pub is_gateway : Peer → Bool
is_gateway peer = is_none peer.domain

-- Each number is reached, so that one more passes it: 16 domains, 16 prefixes of one domain, 64 peers, 4 gateways, 64 host names,
-- 4 prefixes of one host name, 256 packets. A capacity out of its range passes it anyway.
abbrev pub is_too_much : DraftValue → FormValue → Bool
is_too_much before (domain_line name) = nat_le 16 (length before.domains)
is_too_much before (prefix_line name value) = nat_le 16 (count_by (λ scope. bytes_eq scope.domain name) before.scopes)
is_too_much before (client_line peer name) = nat_le 64 (length before.peers)
is_too_much before (gateway_line peer) = nat_le 64 (length before.peers) || nat_le 4 (count_by is_gateway before.peers)
is_too_much before (upstream_line peer) = false
is_too_much before (name_line fqdn value) = if has_name before fqdn
    then nat_le 4 (count_by (λ address. same_name fqdn address.name) before.addresses)
    else nat_le 64 (length before.names)
is_too_much before (ceiling_line seconds) = false
is_too_much before (indefinite_line granted) = false
is_too_much before (capacity_line what limit) = is_none limit
is_too_much before (packet_line value) = nat_le 256 (length before.packets)

abbrev pub overlap_or_limit : ℕ → Option ℕ → Bool → Option SettingsFault
overlap_or_limit line (Some first) too_much = Some (fault.Overlap first line)
overlap_or_limit line None too_much = if too_much then Some (fault.Capacity line) else None

-- the fault of the line of this number
abbrev pub fault_of : DraftValue → ℕ → FormValue → Option SettingsFault
fault_of before line form =
    if is_twice before form then Some (fault.Twice line)
    else if is_unknown before form then Some (fault.Unknown line)
    else overlap_or_limit line (overlap_of before form) (is_too_much before form)
