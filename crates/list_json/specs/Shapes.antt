-- Which members an object may have (RFC 8783, sections 4.3, 6.1 and 7.2; RFC 8519, section 4.2).
use Rattle.std.specs.Prelude.{ℕ, Bool, true, ◌&&◌, ◌||◌, List, codes, bytes_eq, if◌then◌else◌, Option, Some, None, Result, Ok, Err}
use Rattle.serde_json.specs.Data.{Data, Members, no_members, member}
use Rattle.serde_json.specs.Find.{as_object}
use Rattle.list_json.specs.declared.fault.Member.{Member}
use Rattle.list_json.specs.declared.fault.ListFault.{ListFault}
use Rattle.list_json.specs.declared.fault.ListFault.TheVariants.{Invalid, Unknown}
use Rattle.list_json.specs.declared.shape.Shape.{Shape}
use Rattle.list_json.specs.declared.shape.Shape.TheVariants as shape

abbrev pub may_have : Shape → List ℕ → Bool
may_have shape.ClientBody name = bytes_eq name (codes "ietf-dots-data-channel:dots-client")
may_have shape.Client name = bytes_eq name (codes "cuid")
may_have shape.AliasBody name =
    bytes_eq name (codes "ietf-dots-data-channel:alias") || bytes_eq name (codes "ietf-dots-data-channel:aliases")
may_have shape.Aliases name = bytes_eq name (codes "alias")
may_have shape.AclBody name =
    bytes_eq name (codes "ietf-dots-data-channel:acl") || bytes_eq name (codes "ietf-dots-data-channel:acls")
may_have shape.Acls name = bytes_eq name (codes "acl")
may_have shape.Alias name =
    bytes_eq name (codes "name")
    || bytes_eq name (codes "target-prefix")
    || bytes_eq name (codes "target-port-range")
    || bytes_eq name (codes "target-protocol")
    || bytes_eq name (codes "target-fqdn")
may_have shape.Range name = bytes_eq name (codes "lower-port") || bytes_eq name (codes "upper-port")
may_have shape.List name =
    bytes_eq name (codes "name")
    || bytes_eq name (codes "type")
    || bytes_eq name (codes "activation-type")
    || bytes_eq name (codes "aces")
may_have shape.Aces name = bytes_eq name (codes "ace")
may_have shape.Entry name =
    bytes_eq name (codes "name") || bytes_eq name (codes "matches") || bytes_eq name (codes "actions")
may_have shape.Actions name = bytes_eq name (codes "forwarding")
may_have shape.Matches name =
    bytes_eq name (codes "ipv4")
    || bytes_eq name (codes "ipv6")
    || bytes_eq name (codes "tcp")
    || bytes_eq name (codes "udp")
may_have shape.Ipv4 name =
    bytes_eq name (codes "source-ipv4-network")
    || bytes_eq name (codes "destination-ipv4-network")
    || bytes_eq name (codes "protocol")
may_have shape.Ipv6 name =
    bytes_eq name (codes "source-ipv6-network")
    || bytes_eq name (codes "destination-ipv6-network")
    || bytes_eq name (codes "protocol")
may_have shape.Transport name =
    bytes_eq name (codes "source-port")
    || bytes_eq name (codes "source-port-range-or-operator")
    || bytes_eq name (codes "destination-port")
    || bytes_eq name (codes "destination-port-range-or-operator")
may_have shape.PortTest name =
    bytes_eq name (codes "operator")
    || bytes_eq name (codes "port")
    || bytes_eq name (codes "lower-port")
    || bytes_eq name (codes "upper-port")

-- every name of the members is known
abbrev pub only : (List ℕ → Bool) → Members → Bool
only known no_members = true
only known (member name d ms) = known name && only known ms

abbrev pub only_known : Shape → Member → Option Members → Result (Unit {0}) ListFault
only_known kind of None = Err (Invalid of)
only_known kind of (Some ms) = if only (may_have kind) ms then Ok tt else Err Unknown

-- an object that has no member but those that it may have; what is no object is no value of the member
abbrev pub whole_object : Shape → Member → Data → Result (Unit {0}) ListFault
whole_object kind of d = only_known kind of (as_object d)
