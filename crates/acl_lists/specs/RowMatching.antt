-- Which packets a row of a mitigation scrubs (RFC 9132, section 4.4.1).
use Rattle.std.specs.Prelude.{ℕ, Bool, true, false, ◌&&◌, ◌||◌, ◌==◌, nat_le, List, [], ◌∷◌, Option, Some, None}
use Rattle.std.specs.List.{list_any}
use Rattle.ip_scope.specs.Ports.{Ports}
use Rattle.ip_scope.specs.Prefix.{PrefixValue, holds}
use Rattle.acl_lists.specs.declared.packet.Packet.{Packet}

abbrev pub is_none : {A : Type 0} → List A → Bool
is_none [] = true
is_none (x ∷ xs) = false

-- the protocol is listed, or none is
unfoldable pub has_protocol : List ℕ → Packet → Bool
has_protocol protocols packet = is_none protocols || list_any (λ protocol. protocol == packet.protocol) protocols

-- the destination port lies in a range; a packet without ports has none
abbrev pub port_lies : List Ports → Option (ℕ × ℕ) → Bool
port_lies ranges None = false
port_lies ranges (Some of) = list_any (λ range. nat_le range.lower of.1 && nat_le of.1 range.upper) ranges

-- .., or there is no range
unfoldable pub has_port : List Ports → Option (ℕ × ℕ) → Bool
has_port ranges ports = is_none ranges || port_lies ranges ports

-- The destination lies in the prefix, the protocol is listed or none is, and the destination port lies in a range or
-- there is none.
abbrev pub is_scrubbed : PrefixValue → List ℕ → List Ports → Packet → Bool
is_scrubbed prefix protocols ranges packet =
    holds prefix packet.destination.family packet.destination.number && (has_protocol protocols packet && has_port ranges packet.ports)
