-- When an entry of an access list matches a packet (RFC 8519, section 4.2; RFC 8783, section 7.2): where each field
-- that the entry has matches.
use Rattle.std.specs.Prelude.{ℕ, Bool, true, false, not, ◌&&◌, ◌==◌, nat_le, List, Option, Some, None, option_map}
use Rattle.std.specs.List.{list_any}
use Rattle.ip_scope.specs.declared.address.Addr.{Addr}
use Rattle.ip_scope.specs.declared.family.Family.{Family}
use Rattle.ip_scope.specs.Family.{same_family}
use Rattle.ip_scope.specs.Prefix.{PrefixValue, holds}
use Rattle.acl_lists.specs.declared.ace.Ace.{Ace}
use Rattle.acl_lists.specs.declared.acl.Acl.{Acl}
use Rattle.acl_lists.specs.declared.packet.Packet.{Packet}
use Rattle.acl_lists.specs.declared.port_test.PortTest.{PortTest}
use Rattle.acl_lists.specs.declared.port_test.PortTest.TheVariants.{Any, Eq, Neq, Lte, Gte, Range}

-- The port passes the test. A packet without ports fails every test; where nothing is tested it passes.
abbrev pub port_passes : PortTest → Option ℕ → Bool
port_passes Any port = true
port_passes (Eq wanted) (Some port) = port == wanted
port_passes (Neq other) (Some port) = not (port == other)
port_passes (Lte most) (Some port) = nat_le port most
port_passes (Gte least) (Some port) = nat_le least port
port_passes (Range range) (Some port) = nat_le range.lower port && nat_le port range.upper
port_passes _ None = false

-- what is tested holds of what the entry has; where it has nothing, the default stands
abbrev pub where_given : {A : Type 0} → (A → Bool) → Bool → Option A → Bool
where_given test default None = default
where_given test default (Some x) = test x

-- the source is an address of the prefix; an entry without one matches every source
abbrev pub source_matches : Ace → Packet → Bool
source_matches ace packet =
    where_given (λ prefix. holds prefix packet.source.family packet.source.number) true ace.source

-- a prefix of the domain that is of this family has the address
abbrev pub goes_to : List PrefixValue → Family → Addr → Bool
goes_to domain family address =
    list_any (λ prefix. same_family prefix.family family && holds prefix address.family address.number) domain

-- the destination is an address of the prefix; an entry without one matches what goes to the client's domain, in the
-- list's family
abbrev pub destination_matches : Acl → Ace → List PrefixValue → Packet → Bool
destination_matches acl ace domain packet =
    where_given
    (λ prefix. holds prefix packet.destination.family packet.destination.number)
    (goes_to domain acl.family packet.destination)
    ace.destination

-- the protocol is the one asked for; an entry without one matches every protocol
abbrev pub protocol_matches : Ace → Packet → Bool
protocol_matches ace packet = where_given (λ protocol. packet.protocol == protocol) true ace.protocol

-- each field of the entry of the list matches the packet, in a domain of these prefixes
abbrev pub ace_matches : Acl → Ace → List PrefixValue → Packet → Bool
ace_matches acl ace domain packet =
    source_matches ace packet
    && destination_matches acl ace domain packet
    && protocol_matches ace packet
    && port_passes ace.source_port (option_map (λ ports. ports.0) packet.ports)
    && port_passes ace.destination_port (option_map (λ ports. ports.1) packet.ports)
