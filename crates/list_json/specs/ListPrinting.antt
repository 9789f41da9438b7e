-- An access list as JSON: the members that say something, in the bytewise order of their names (RFC 8783, section 7.2;
-- RFC 8519, section 4.2).
use Rattle.std.specs.Prelude.{ℕ, ◌==◌, Bool, true, false, List, map, codes, if◌then◌else◌, Option, Some, None}
use Rattle.acl_lists.specs.declared.ace.Ace.{Ace}
use Rattle.acl_lists.specs.declared.acl.Acl.{Acl}
use Rattle.acl_lists.specs.declared.acl.Activation.{Activation}
use Rattle.acl_lists.specs.declared.acl.Activation.TheVariants as activation
use Rattle.acl_lists.specs.declared.port_test.PortTest.{PortTest}
use Rattle.acl_lists.specs.declared.port_test.PortTest.TheVariants as port
use Rattle.ip_scope.specs.declared.family.Family.{Family}
use Rattle.ip_scope.specs.declared.family.Family.TheVariants.{V4, V6}
use Rattle.serde_json.specs.Data.{Data, string, array, object, Members, no_members, member}
use Rattle.serde_json.specs.View.{items_of}
use Rattle.list_json.specs.AliasPrinting.{number_data, prefix_data, range_data}
use Rattle.list_json.specs.Lists.{header_name, source_name, destination_name}

-- a member that stands only where there is a value
abbrev pub with_value : List ℕ → Option Data → Members → Members
with_value name None rest = rest
with_value name (Some d) rest = member name d rest

-- an object that stands only where it has a member
abbrev pub with_object : List ℕ → Members → Members → Members
with_object name no_members rest = rest
with_object name (member first d ms) rest = member name (object (member first d ms)) rest

abbrev pub option_data : {A : Type 0} → (A → Data) → Option A → Option Data
option_data write None = None
option_data write (Some x) = Some (write x)

-- ---- ports

abbrev pub operator_data : List ℕ → ℕ → Data
operator_data operator number =
    object (member (codes "operator") (string operator) (member (codes "port") (number_data number) no_members))

abbrev pub test_data : PortTest → Option Data
test_data port.Any = None
test_data (port.Eq number) = Some (operator_data (codes "eq") number)
test_data (port.Neq number) = Some (operator_data (codes "neq") number)
test_data (port.Lte number) = Some (operator_data (codes "lte") number)
test_data (port.Gte number) = Some (operator_data (codes "gte") number)
test_data (port.Range range) = Some (range_data range)

abbrev pub transport_members : Option Data → Option Data → Members
transport_members source destination =
    with_value
    (codes "destination-port-range-or-operator")
    destination
    (with_value (codes "source-port-range-or-operator") source no_members)

-- `udp` for the protocol 17, and else `tcp`
abbrev pub transport_name : Option ℕ → List ℕ
transport_name None = codes "tcp"
transport_name (Some protocol) = if protocol == 17 then codes "udp" else codes "tcp"

-- ---- matches

-- the protocol, which a test of a port says in another way
abbrev pub untested : Option Data → Option Data → Option ℕ → Option ℕ
untested None None protocol = protocol
untested source destination protocol = None

abbrev pub header_members : Family → Option Data → Option Data → Option Data → Members
header_members family source destination protocol =
    with_value
    (destination_name family)
    destination
    (with_value (codes "protocol") protocol (with_value (source_name family) source no_members))

abbrev pub entry_header : Family → Ace → Members
entry_header family entry =
    header_members
    family
    (option_data prefix_data entry.source)
    (option_data prefix_data entry.destination)
    (option_data number_data (untested (test_data entry.source_port) (test_data entry.destination_port) entry.protocol))

abbrev pub entry_transport : Ace → Members
entry_transport entry = transport_members (test_data entry.source_port) (test_data entry.destination_port)

abbrev pub matches_members : Family → Ace → Members
matches_members family entry =
    with_object
    (header_name family)
    (entry_header family entry)
    (with_object (transport_name entry.protocol) (entry_transport entry) no_members)

-- ---- entries and the list

abbrev pub forwarding_text : Bool → List ℕ
forwarding_text true = codes "accept"
forwarding_text false = codes "drop"

abbrev pub actions_data : Bool → Data
actions_data accept = object (member (codes "forwarding") (string (forwarding_text accept)) no_members)

abbrev pub entry_data : Family → Ace → Data
entry_data family entry =
    object
    (
    member
    (codes "actions")
    (actions_data entry.accept)
    (with_object (codes "matches") (matches_members family entry) (member (codes "name") (string entry.name) no_members))
    )

abbrev pub family_text : Family → List ℕ
family_text V4 = codes "ipv4-acl-type"
family_text V6 = codes "ipv6-acl-type"

abbrev pub activation_text : Activation → List ℕ
activation_text activation.WhenMitigating = codes "activate-when-mitigating"
activation_text activation.Immediate = codes "immediate"
activation_text activation.Deactivate = codes "deactivate"

abbrev pub aces_data : Family → List Ace → Data
aces_data family entries = object (member (codes "ace") (array (items_of (map (entry_data family) entries))) no_members)

abbrev pub acl_data : Acl → Data
acl_data acl =
    object
    (
    member
    (codes "aces")
    (aces_data acl.family acl.aces)
    (
    member
    (codes "activation-type")
    (string (activation_text acl.activation))
    (
    member
    (codes "name")
    (string acl.name)
    (member (codes "type") (string (family_text acl.family)) no_members)
    )
    )
    )
