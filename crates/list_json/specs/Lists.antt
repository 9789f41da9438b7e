-- Which values are an access list, and what each member says (RFC 8783, section 7.2; RFC 8519, section 4.2).
use Rattle.std.specs.Prelude.{ℕ, Bool, true, false, not, ◌&&◌, ◌==◌, List, [], ◌∷◌, codes, bytes_eq, if◌then◌else◌, Option, Some, None, option_and_then, ok_or, Result, Ok, Err}
use Rattle.std.specs.List.{list_any}
use Rattle.acl_lists.specs.declared.limits.TheConstants.{MAX_ACES}
use Rattle.acl_lists.specs.declared.ace.Ace.{Ace}
use Rattle.acl_lists.specs.declared.acl.Acl.{Acl}
use Rattle.acl_lists.specs.declared.acl.Activation.{Activation}
use Rattle.acl_lists.specs.declared.acl.Activation.TheVariants as activation
use Rattle.acl_lists.specs.declared.port_test.PortTest.{PortTest}
use Rattle.acl_lists.specs.declared.port_test.PortTest.TheVariants as port
use Rattle.ip_scope.specs.declared.family.Family.{Family}
use Rattle.ip_scope.specs.declared.family.Family.TheVariants.{V4, V6}
use Rattle.ip_scope.specs.Family.{same_family}
use Rattle.ip_scope.specs.Prefix.{PrefixValue}
use Rattle.serde_json.specs.Data.{Data}
use Rattle.serde_json.specs.Find.{get, as_str}
use Rattle.list_json.specs.declared.fault.Member.{Member}
use Rattle.list_json.specs.declared.fault.Member.TheVariants as the
use Rattle.list_json.specs.declared.fault.ListFault.{ListFault}
use Rattle.list_json.specs.declared.fault.ListFault.TheVariants as faults
use Rattle.list_json.specs.declared.matches.Network.{Network}
use Rattle.list_json.specs.declared.matches.Transport.{Transport}
use Rattle.list_json.specs.declared.matches.Matches.{Matches}
use Rattle.list_json.specs.declared.operator.Operator.{Operator}
use Rattle.list_json.specs.declared.operator.Operator.TheVariants as operator
use Rattle.list_json.specs.declared.shape.Shape.{Shape}
use Rattle.list_json.specs.declared.shape.Shape.TheVariants as shape
use Rattle.list_json.specs.Aliases.{range_between}
use Rattle.list_json.specs.Shapes.{whole_object}
use Rattle.list_json.specs.Steps.{◌>>=◌, needed, given, otherwise, items_in}
use Rattle.list_json.specs.Values.{name_of, prefix_of, protocol_of, port_of}

-- a text that is one of some words
abbrev pub word_of : {A : Type 0} → (List ℕ → Option A) → Member → Data → Result A ListFault
word_of word of d = ok_or (option_and_then word (as_str d)) (faults.Invalid of)

-- ---- the ports of a match: an operator with a port, or a range

abbrev pub operator_in : List ℕ → Option Operator
operator_in text =
    if bytes_eq text (codes "lte") then Some operator.Lte
    else if bytes_eq text (codes "gte") then Some operator.Gte
    else if bytes_eq text (codes "eq") then Some operator.Eq
    else if bytes_eq text (codes "neq") then Some operator.Neq
    else None

-- what an operator asks of a port
abbrev pub test_by : Operator → ℕ → PortTest
test_by operator.Lte number = port.Lte number
test_by operator.Gte number = port.Gte number
test_by operator.Eq number = port.Eq number
test_by operator.Neq number = port.Neq number

abbrev pub range_test : ℕ → ℕ → Result PortTest ListFault
range_test lower upper = range_between lower upper >>= λ range. Ok (port.Range range)

-- both members of one of the two forms, and none of the other
abbrev pub operated : Member → Option Operator → Option ℕ → Result PortTest ListFault
operated of (Some by) (Some number) = Ok (test_by by number)
operated of (Some by) None = Err (faults.Missing the.Port)
operated of None number = Err (faults.Missing the.Operator)

abbrev pub ranged : Option ℕ → Option ℕ → Result PortTest ListFault
ranged (Some lower) (Some upper) = range_test lower upper
ranged (Some lower) None = Err (faults.Missing the.UpperPort)
ranged None upper = Err (faults.Missing the.LowerPort)

abbrev pub either_form : Member → Option Operator → Option ℕ → Option ℕ → Option ℕ → Result PortTest ListFault
either_form of by number None None = operated of by number
either_form of None None lower upper = ranged lower upper
either_form of by number lower upper = Err (faults.Invalid of)

abbrev pub port_test_of : Member → Data → Result PortTest ListFault
port_test_of of d = do
  _ ← whole_object shape.PortTest of d
  by ← given (word_of operator_in the.Operator) (get (codes "operator") d)
  number ← given (port_of the.Port) (get (codes "port") d)
  lower ← given (port_of the.LowerPort) (get (codes "lower-port") d)
  upper ← given (port_of the.UpperPort) (get (codes "upper-port") d)
  either_form of by number lower upper

-- ---- tcp and udp

-- a port has two spellings, of which one stands at most; without either nothing is asked of it
abbrev pub one_spelling : Member → Option Data → Option Data → Result PortTest ListFault
one_spelling of (Some d) (Some other) = Err (faults.Invalid of)
one_spelling of (Some d) None = port_test_of of d
one_spelling of None long = otherwise port.Any (port_test_of of) long

abbrev pub transport_of : Member → ℕ → Data → Result Transport ListFault
transport_of of protocol d = do
  _ ← whole_object shape.Transport of d
  source ← one_spelling the.SourcePort (get (codes "source-port") d) (get (codes "source-port-range-or-operator") d)
  destination ← one_spelling the.DestinationPort (get (codes "destination-port") d) (get (codes "destination-port-range-or-operator") d)
  Ok (record { protocol = protocol; source = source; destination = destination })

abbrev pub present : Result Transport ListFault → Result (Option Transport) ListFault
present (Ok transport) = Ok (Some transport)
present (Err fault) = Err fault

-- one of `tcp`, 6, and `udp`, 17, at most
abbrev pub one_transport : Option Data → Option Data → Result (Option Transport) ListFault
one_transport None None = Ok None
one_transport (Some tcp) None = present (transport_of the.Tcp 6 tcp)
one_transport None (Some udp) = present (transport_of the.Udp 17 udp)
one_transport (Some tcp) (Some udp) = Err (faults.Invalid the.Udp)

-- ---- ipv4 and ipv6

abbrev pub header_name : Family → List ℕ
header_name V4 = codes "ipv4"
header_name V6 = codes "ipv6"

abbrev pub other_header_name : Family → List ℕ
other_header_name V4 = codes "ipv6"
other_header_name V6 = codes "ipv4"

abbrev pub header_member : Family → Member
header_member V4 = the.Ipv4
header_member V6 = the.Ipv6

abbrev pub other_header_member : Family → Member
other_header_member V4 = the.Ipv6
other_header_member V6 = the.Ipv4

abbrev pub header_shape : Family → Shape
header_shape V4 = shape.Ipv4
header_shape V6 = shape.Ipv6

abbrev pub source_name : Family → List ℕ
source_name V4 = codes "source-ipv4-network"
source_name V6 = codes "source-ipv6-network"

abbrev pub destination_name : Family → List ℕ
destination_name V4 = codes "destination-ipv4-network"
destination_name V6 = codes "destination-ipv6-network"

abbrev pub in_family : Family → Member → PrefixValue → Result PrefixValue ListFault
in_family family of prefix = if same_family prefix.family family then Ok prefix else Err (faults.Invalid of)

-- a prefix of the list's family
abbrev pub network_of : Family → Member → Data → Result PrefixValue ListFault
network_of family of d = prefix_of of d >>= in_family family of

abbrev pub header_of : Family → Data → Result Network ListFault
header_of family d = do
  _ ← whole_object (header_shape family) (header_member family) d
  source ← given (network_of family the.SourceNetwork) (get (source_name family) d)
  destination ← given (network_of family the.DestinationNetwork) (get (destination_name family) d)
  protocol ← given (protocol_of the.Protocol) (get (codes "protocol") d)
  Ok (record { source = source; destination = destination; protocol = protocol })

abbrev pub no_header : Network
no_header = record { source = None; destination = None; protocol = None }

-- the header of the other family contradicts the type of the list
abbrev pub absent : Member → Option Data → Result (Unit {0}) ListFault
absent of None = Ok tt
absent of (Some d) = Err (faults.Invalid of)

-- ---- matches

-- a transport is its protocol, which a protocol that is named can't contradict
abbrev pub agreed : Option ℕ → Option Transport → Result (Option ℕ) ListFault
agreed named None = Ok named
agreed None (Some transport) = Ok (Some transport.protocol)
agreed (Some named) (Some transport) = if named == transport.protocol then Ok (Some named) else Err (faults.Invalid the.Protocol)

abbrev pub source_test : Option Transport → PortTest
source_test None = port.Any
source_test (Some transport) = transport.source

abbrev pub destination_test : Option Transport → PortTest
destination_test None = port.Any
destination_test (Some transport) = transport.destination

abbrev pub joined : Network → Option Transport → Result Matches ListFault
joined header transport = do
  protocol ← agreed header.protocol transport
  Ok (record {
    source = header.source;
    destination = header.destination;
    protocol = protocol;
    source_port = source_test transport;
    destination_port = destination_test transport;
  })

-- what a header asks, together with what `tcp` or `udp` asks
abbrev pub with_transport : Network → Option Data → Option Data → Result Matches ListFault
with_transport header tcp udp = one_transport tcp udp >>= joined header

abbrev pub matches_of : Family → Data → Result Matches ListFault
matches_of family d = do
  _ ← whole_object shape.Matches the.Matches d
  _ ← absent (other_header_member family) (get (other_header_name family) d)
  header ← otherwise no_header (header_of family) (get (header_name family) d)
  with_transport header (get (codes "tcp") d) (get (codes "udp") d)

abbrev pub every_packet : Matches
every_packet = record { source = None; destination = None; protocol = None; source_port = port.Any; destination_port = port.Any }

-- ---- entries

-- whether a packet that matches is accepted
abbrev pub forwarding_in : List ℕ → Option Bool
forwarding_in text =
    if bytes_eq text (codes "accept") then Some true else if bytes_eq text (codes "drop") then Some false else None

abbrev pub actions_of : Data → Result Bool ListFault
actions_of d = do
  _ ← whole_object shape.Actions the.Actions d
  needed the.Forwarding (word_of forwarding_in the.Forwarding) (get (codes "forwarding") d)

abbrev pub entry_with : List ℕ → Matches → Bool → Ace
entry_with name matches accept = record {
  name = name;
  source = matches.source;
  destination = matches.destination;
  protocol = matches.protocol;
  source_port = matches.source_port;
  destination_port = matches.destination_port;
  accept = accept;
}

abbrev pub entry_matching : Matches → Data → Result Ace ListFault
entry_matching matches d = do
  accept ← needed the.Actions actions_of (get (codes "actions") d)
  name ← needed the.Name (name_of the.Name) (get (codes "name") d)
  Ok (entry_with name matches accept)

abbrev pub entry_of : Family → Data → Result Ace ListFault
entry_of family d = do
  _ ← whole_object shape.Entry the.Ace d
  matches ← otherwise every_packet (matches_of family) (get (codes "matches") d)
  entry_matching matches d

-- no two entries have one name
abbrev pub distinct : List Ace → Bool
distinct [] = true
distinct (entry ∷ entries) = not (list_any (λ other. bytes_eq other.name entry.name) entries) && distinct entries

abbrev pub some_entries : List Ace → Result (List Ace) ListFault
some_entries [] = Err (faults.Missing the.Ace)
some_entries (entry ∷ entries) = if distinct (entry ∷ entries) then Ok (entry ∷ entries) else Err (faults.Invalid the.Name)

abbrev pub aces_of : Family → Data → Result (List Ace) ListFault
aces_of family d = do
  _ ← whole_object shape.Aces the.Aces d
  entries ← items_in the.Ace MAX_ACES (entry_of family) (get (codes "ace") d)
  some_entries entries

-- ---- the list

abbrev pub family_in : List ℕ → Option Family
family_in text =
    if bytes_eq text (codes "ipv4-acl-type") then Some V4
    else if bytes_eq text (codes "ipv6-acl-type") then Some V6
    else None

abbrev pub activation_in : List ℕ → Option Activation
activation_in text =
    if bytes_eq text (codes "activate-when-mitigating") then Some activation.WhenMitigating
    else if bytes_eq text (codes "immediate") then Some activation.Immediate
    else if bytes_eq text (codes "deactivate") then Some activation.Deactivate
    else None

-- **the access list that a value is**, or its first fault
abbrev pub acl_in : Data → Result Acl ListFault
acl_in d = do
  _ ← whole_object shape.List the.Acl d
  name ← needed the.Name (name_of the.Name) (get (codes "name") d)
  family ← needed the.AclKind (word_of family_in the.AclKind) (get (codes "type") d)
  activation ← otherwise activation.WhenMitigating (word_of activation_in the.ActivationType) (get (codes "activation-type") d)
  aces ← needed the.Aces (aces_of family) (get (codes "aces") d)
  Ok (record { name = name; family = family; activation = activation; aces = aces })
