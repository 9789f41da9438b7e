-- An access list that is printed is read again.
use Rattle.std.proofs.Common.{◌≡◌, ℕ, ◌==◌, ◌⊎◌, inl, inr, List, [], ◌∷◌, Option, Some, None, Result, Ok, Err, Bool, true, false, refl, sym, ap, ◌∙◌, subst, nat_le, nat_lt, Equal}
use Rattle.std.specs.Prelude.{codes, if◌then◌else◌}
use Rattle.std.specs.Cmp.Lexicographic.{slice_cmp}
use Rattle.std.specs.List.{AllByRecursion}
use Rattle.std.specs.Ordering.{nat_cmp, match_ordering}
use Rattle.std.proofs.lemmas.Bool.{eqb-true}
use Rattle.acl_lists.specs.declared.ace.Ace.{Ace}
use Rattle.acl_lists.specs.declared.acl.Acl.{Acl}
use Rattle.acl_lists.specs.declared.acl.Activation.{Activation}
use Rattle.acl_lists.specs.declared.acl.Activation.TheVariants as activation
use Rattle.acl_lists.specs.declared.port_test.PortTest.{PortTest}
use Rattle.acl_lists.specs.declared.port_test.PortTest.TheVariants as port
use Rattle.dots_lists.specs.Name.{is_name}
use Rattle.ip_scope.specs.declared.family.Family.{Family}
use Rattle.ip_scope.specs.declared.family.Family.TheVariants.{V4, V6}
use Rattle.ip_scope.specs.Family.{same_family}
use Rattle.ip_scope.specs.Prefix.{PrefixValue}
use Rattle.serde_json.specs.Data.{Data, string, object, Members, no_members, member}
use Rattle.serde_json.specs.Find.{get, get_member}
use Rattle.list_json.specs.declared.fault.Member.{Member}
use Rattle.list_json.specs.declared.fault.Member.TheVariants as the
use Rattle.list_json.specs.declared.fault.ListFault.{ListFault}
use Rattle.list_json.specs.declared.fault.ListFault.TheVariants as faults
use Rattle.list_json.specs.declared.matches.Network.{Network}
use Rattle.list_json.specs.declared.matches.Transport.{Transport}
use Rattle.list_json.specs.declared.matches.Matches.{Matches}
use Rattle.list_json.specs.declared.operator.Operator.{Operator}
use Rattle.list_json.specs.declared.operator.Operator.TheVariants as operator
use Rattle.list_json.specs.declared.shape.Shape.TheVariants as shape
use Rattle.list_json.specs.Aliases.{range_between}
use Rattle.list_json.specs.AliasPrinting.{number_data, prefix_data, range_data}
use Rattle.list_json.specs.ListPrinting.{with_value, with_object, option_data, operator_data, test_data, transport_members, transport_name, untested, header_members, matches_members, actions_data, entry_data, family_text, activation_text, aces_data, acl_data}
use Rattle.list_json.specs.Lists.{word_of, operator_in, family_in, activation_in, range_test, operated, ranged, either_form, port_test_of, one_spelling, transport_of, present, one_transport, header_name, other_header_name, header_member, other_header_member, header_shape, source_name, destination_name, in_family, network_of, header_of, no_header, absent, agreed, source_test, destination_test, joined, with_transport, matches_of, every_packet, actions_of, entry_with, entry_matching, entry_of, distinct, some_entries, aces_of, acl_in}
use Rattle.list_json.specs.Prefixed.{IsValid, HasPrefixes}
use Rattle.list_json.specs.Shapes.{may_have, only, whole_object}
use Rattle.list_json.specs.Steps.{◌>>=◌, needed, given, otherwise, items_in}
use Rattle.list_json.specs.Values.{name_of, prefix_of, protocol_of, port_of, number_below}
use Rattle.list_json.proofs.Again.{bound_ok, ok_same, name_again, number_bound, prefix_text_again, printed_items, items_again}
use Rattle.list_json.proofs.AliasAgain.{ordered_ports, needed_name}
use Rattle.acl_lists.specs.declared.limits.TheConstants.{MAX_ACES}

-- ---- members by their names

-- what an object that stands only where it has a member is
abbrev pub object_if : Members → Option Data
object_if no_members = None
object_if (member first d ms) = Some (object (member first d ms))

abbrev pub IsOther : List ℕ → List ℕ → Type 0
IsOther name other = (x y : Option Data) → match_ordering (slice_cmp nat_cmp name other) x y x ≡ x

pub value_here : (name : List ℕ) (value : Option Data) (rest : Members) → slice_cmp nat_cmp name name ≡ Equal → get_member name rest ≡ None → get_member name (with_value name value rest) ≡ value
value_here name None rest same none = none
value_here name (Some d) rest same none = rw same refl

pub value_past : (name other : List ℕ) (value : Option Data) (rest : Members) → IsOther name other → get_member name (with_value other value rest) ≡ get_member name rest
value_past name other None rest apart = refl
value_past name other (Some d) rest apart = apart (get_member name rest) (Some d)

pub object_here : (name : List ℕ) (inner rest : Members) → slice_cmp nat_cmp name name ≡ Equal → get_member name rest ≡ None → get_member name (with_object name inner rest) ≡ object_if inner
object_here name no_members rest same none = none
object_here name (member first d ms) rest same none = rw same refl

pub object_past : (name other : List ℕ) (inner rest : Members) → IsOther name other → get_member name (with_object other inner rest) ≡ get_member name rest
object_past name other no_members rest apart = refl
object_past name other (member first d ms) rest apart = apart (get_member name rest) (Some (object (member first d ms)))

pub only_value : (known : List ℕ → Bool) (name : List ℕ) (value : Option Data) (rest : Members) → known name ≡ true → only known rest ≡ true → only known (with_value name value rest) ≡ true
only_value known name None rest here later = later
only_value known name (Some d) rest here later = rw here later

pub only_object : (known : List ℕ → Bool) (name : List ℕ) (inner rest : Members) → known name ≡ true → only known rest ≡ true → only known (with_object name inner rest) ≡ true
only_object known name no_members rest here later = later
only_object known name (member first d ms) rest here later = rw here later

-- ---- what a list that was read has

abbrev pub IsTest : PortTest → Type 0
IsTest port.Any = Unit {0}
IsTest (port.Eq number) = nat_lt number 65536 ≡ true
IsTest (port.Neq number) = nat_lt number 65536 ≡ true
IsTest (port.Lte number) = nat_lt number 65536 ≡ true
IsTest (port.Gte number) = nat_lt number 65536 ≡ true
IsTest (port.Range range) = (nat_lt range.lower 65536 ≡ true) × (nat_lt range.upper 65536 ≡ true) × (nat_le range.lower range.upper ≡ true)

abbrev pub IsIn : Family → Option PrefixValue → Type 0
IsIn family None = Unit {0}
IsIn family (Some prefix) = same_family prefix.family family ≡ true

abbrev pub IsBelow : ℕ → Option ℕ → Type 0
IsBelow bound None = Unit {0}
IsBelow bound (Some number) = nat_lt number bound ≡ true

-- a port is tested of TCP and UDP alone
abbrev pub IsTested : PortTest → PortTest → Option ℕ → Type 0
IsTested port.Any port.Any protocol = Unit {0}
IsTested source destination protocol = (protocol ≡ Some 6) ⊎ (protocol ≡ Some 17)

pub record Fits (family : Family) (entry : Ace) : Type 0 where
  pub name : is_name entry.name ≡ true
  pub source : IsIn family entry.source
  pub destination : IsIn family entry.destination
  pub protocol : IsBelow 256 entry.protocol
  pub source_port : IsTest entry.source_port
  pub destination_port : IsTest entry.destination_port
  pub tested : IsTested entry.source_port entry.destination_port entry.protocol

-- ---- printed tests are read again

pub test_again : (m : Member) (test : PortTest) → IsTest test → otherwise port.Any (port_test_of m) (test_data test) ≡ Ok test
test_again m port.Any fits = refl
test_again m (port.Eq number) small = rw small refl
test_again m (port.Neq number) small = rw small refl
test_again m (port.Lte number) small = rw small refl
test_again m (port.Gte number) small = rw small refl
test_again m (port.Range range) fits = rw (fits.0, fits.1, fits.2) refl

abbrev short_source : List ℕ
short_source = codes "source-port"

abbrev long_source : List ℕ
long_source = codes "source-port-range-or-operator"

abbrev short_destination : List ℕ
short_destination = codes "destination-port"

abbrev long_destination : List ℕ
long_destination = codes "destination-port-range-or-operator"

pub transport_again : (m : Member) (protocol : ℕ) (source destination : PortTest) → IsTest source → IsTest destination
    → transport_of m protocol (object (transport_members (test_data source) (test_data destination))) ≡ Ok (record { protocol = protocol; source = source; destination = destination })
transport_again m protocol source destination fits fits' =
    let s = test_data source in
    let t = test_data destination in
    let sources = with_value long_source s no_members in
    let known = only_value (may_have shape.Transport) long_destination t sources refl (only_value (may_have shape.Transport) long_source s no_members refl refl) in
    let one = value_past short_source long_destination t sources (λ x y. refl) ∙ value_past short_source long_source s no_members (λ x y. refl) in
    let two = value_past long_source long_destination t sources (λ x y. refl) ∙ value_here long_source s no_members refl refl in
    let three = value_past short_destination long_destination t sources (λ x y. refl) ∙ value_past short_destination long_source s no_members (λ x y. refl) in
    let four = value_here long_destination t sources refl (value_past long_destination long_source s no_members (λ x y. refl)) in
    rw (known, one, two, test_again the.SourcePort source fits, three, four, test_again the.DestinationPort destination fits') refl

-- ---- printed headers are read again

pub header_again : (family : Family) (source destination : Option PrefixValue) (protocol : Option ℕ)
    → IsIn family source → IsIn family destination → IsBelow 256 protocol → IsValid source → IsValid destination
    → otherwise no_header (header_of family) (object_if (header_members family (option_data prefix_data source) (option_data prefix_data destination) (option_data number_data protocol)))
    ≡ Ok (record { source = source; destination = destination; protocol = protocol })
header_again V4 None None None one two three good good' = refl
header_again V4 None None (Some n) one two three good good' = rw three refl
header_again V4 None (Some q) None one two three good good' = rw (prefix_text_again q good', two) refl
header_again V4 None (Some q) (Some n) one two three good good' = rw (prefix_text_again q good', two, three) refl
header_again V4 (Some p) None None one two three good good' = rw (prefix_text_again p good, one) refl
header_again V4 (Some p) None (Some n) one two three good good' = rw (prefix_text_again p good, one, three) refl
header_again V4 (Some p) (Some q) None one two three good good' = rw (prefix_text_again p good, one, prefix_text_again q good', two) refl
header_again V4 (Some p) (Some q) (Some n) one two three good good' = rw (prefix_text_again p good, one, prefix_text_again q good', two, three) refl
header_again V6 None None None one two three good good' = refl
header_again V6 None None (Some n) one two three good good' = rw three refl
header_again V6 None (Some q) None one two three good good' = rw (prefix_text_again q good', two) refl
header_again V6 None (Some q) (Some n) one two three good good' = rw (prefix_text_again q good', two, three) refl
header_again V6 (Some p) None None one two three good good' = rw (prefix_text_again p good, one) refl
header_again V6 (Some p) None (Some n) one two three good good' = rw (prefix_text_again p good, one, three) refl
header_again V6 (Some p) (Some q) None one two three good good' = rw (prefix_text_again p good, one, prefix_text_again q good', two) refl
header_again V6 (Some p) (Some q) (Some n) one two three good good' = rw (prefix_text_again p good, one, prefix_text_again q good', two, three) refl

-- ---- printed matches are read again

-- what a header and a transport ask
abbrev asked_by : Network → Option ℕ → PortTest → PortTest → Matches
asked_by header protocol source destination = record {
  source = header.source;
  destination = header.destination;
  protocol = protocol;
  source_port = source;
  destination_port = destination;
}

untested_again : (family : Family) (inner : Members) (header : Network) → otherwise no_header (header_of family) (object_if inner) ≡ Ok header
    → otherwise every_packet (matches_of family) (object_if (with_object (header_name family) inner no_members)) ≡ Ok (asked_by header header.protocol port.Any port.Any)
untested_again family no_members header is = subst (λ (h : Network). ◌≡◌ {A = Result Matches ListFault} (Ok every_packet) (Ok (asked_by h h.protocol port.Any port.Any))) (ok_same no_header header is) refl
untested_again V4 (member first d ms) header is = rw is refl
untested_again V6 (member first d ms) header is = rw is refl

tcp_again : (family : Family) (inner : Members) (header : Network) (first : List ℕ) (d : Data) (ms : Members) (source destination : PortTest)
    → header.protocol ≡ None → otherwise no_header (header_of family) (object_if inner) ≡ Ok header
    → transport_of the.Tcp 6 (object (member first d ms)) ≡ Ok (record { protocol = 6; source = source; destination = destination })
    → otherwise every_packet (matches_of family) (object_if (with_object (header_name family) inner (with_object (codes "tcp") (member first d ms) no_members))) ≡ Ok (asked_by header (Some 6) source destination)
tcp_again V4 no_members header first d ms source destination none is read = subst (λ (h : Network). matches_of V4 (object (member (codes "tcp") (object (member first d ms)) no_members)) ≡ Ok (asked_by h (Some 6) source destination)) (ok_same no_header header is) (rw read refl)
tcp_again V6 no_members header first d ms source destination none is read = subst (λ (h : Network). matches_of V6 (object (member (codes "tcp") (object (member first d ms)) no_members)) ≡ Ok (asked_by h (Some 6) source destination)) (ok_same no_header header is) (rw read refl)
tcp_again V4 (member other e others) header first d ms source destination none is read = rw (is, read, none) refl
tcp_again V6 (member other e others) header first d ms source destination none is read = rw (is, read, none) refl

udp_again : (family : Family) (inner : Members) (header : Network) (first : List ℕ) (d : Data) (ms : Members) (source destination : PortTest)
    → header.protocol ≡ None → otherwise no_header (header_of family) (object_if inner) ≡ Ok header
    → transport_of the.Udp 17 (object (member first d ms)) ≡ Ok (record { protocol = 17; source = source; destination = destination })
    → otherwise every_packet (matches_of family) (object_if (with_object (header_name family) inner (with_object (codes "udp") (member first d ms) no_members))) ≡ Ok (asked_by header (Some 17) source destination)
udp_again V4 no_members header first d ms source destination none is read = subst (λ (h : Network). matches_of V4 (object (member (codes "udp") (object (member first d ms)) no_members)) ≡ Ok (asked_by h (Some 17) source destination)) (ok_same no_header header is) (rw read refl)
udp_again V6 no_members header first d ms source destination none is read = subst (λ (h : Network). matches_of V6 (object (member (codes "udp") (object (member first d ms)) no_members)) ≡ Ok (asked_by h (Some 17) source destination)) (ok_same no_header header is) (rw read refl)
udp_again V4 (member other e others) header first d ms source destination none is read = rw (is, read, none) refl
udp_again V6 (member other e others) header first d ms source destination none is read = rw (is, read, none) refl

-- the members of a transport, of which there is one at least
record Tested (source destination : PortTest) (protocol : Option ℕ) : Type 0 where
  first : List ℕ
  value : Data
  others : Members
  members : transport_members (test_data source) (test_data destination) ≡ member first value others
  unnamed : untested (test_data source) (test_data destination) protocol ≡ None
  transport : (protocol ≡ Some 6) ⊎ (protocol ≡ Some 17)

sources_members : (d : Data) (destination : Option Data) → (first : List ℕ) × (value : Data) × (others : Members) × (with_value long_destination destination (member long_source d no_members) ≡ member first value others)
sources_members d None = (long_source, d, no_members, refl)
sources_members d (Some e) = (long_destination, e, member long_source d no_members, refl)

tested_either : (source destination : PortTest) (protocol : Option ℕ) → IsTested source destination protocol → ((source ≡ port.Any) × (destination ≡ port.Any)) ⊎ Tested source destination protocol
tested_either port.Any port.Any protocol tested = inl (refl, refl)
tested_either port.Any (port.Eq number) protocol tested = inr (record { first = long_destination; value = operator_data (codes "eq") number; others = no_members; members = refl; unnamed = refl; transport = tested })
tested_either port.Any (port.Neq number) protocol tested = inr (record { first = long_destination; value = operator_data (codes "neq") number; others = no_members; members = refl; unnamed = refl; transport = tested })
tested_either port.Any (port.Lte number) protocol tested = inr (record { first = long_destination; value = operator_data (codes "lte") number; others = no_members; members = refl; unnamed = refl; transport = tested })
tested_either port.Any (port.Gte number) protocol tested = inr (record { first = long_destination; value = operator_data (codes "gte") number; others = no_members; members = refl; unnamed = refl; transport = tested })
tested_either port.Any (port.Range range) protocol tested = inr (record { first = long_destination; value = range_data range; others = no_members; members = refl; unnamed = refl; transport = tested })
tested_either (port.Eq number) destination protocol tested = let all = sources_members (operator_data (codes "eq") number) (test_data destination) in inr (record { first = all.0; value = all.1; others = all.2; members = all.3; unnamed = refl; transport = tested })
tested_either (port.Neq number) destination protocol tested = let all = sources_members (operator_data (codes "neq") number) (test_data destination) in inr (record { first = all.0; value = all.1; others = all.2; members = all.3; unnamed = refl; transport = tested })
tested_either (port.Lte number) destination protocol tested = let all = sources_members (operator_data (codes "lte") number) (test_data destination) in inr (record { first = all.0; value = all.1; others = all.2; members = all.3; unnamed = refl; transport = tested })
tested_either (port.Gte number) destination protocol tested = let all = sources_members (operator_data (codes "gte") number) (test_data destination) in inr (record { first = all.0; value = all.1; others = all.2; members = all.3; unnamed = refl; transport = tested })
tested_either (port.Range range) destination protocol tested = let all = sources_members (range_data range) (test_data destination) in inr (record { first = all.0; value = all.1; others = all.2; members = all.3; unnamed = refl; transport = tested })

abbrev printed_matches : Family → Option PrefixValue → Option PrefixValue → Option ℕ → PortTest → PortTest → Members
printed_matches family source destination protocol test other =
    with_object
    (header_name family)
    (header_members family (option_data prefix_data source) (option_data prefix_data destination) (option_data number_data (untested (test_data test) (test_data other) protocol)))
    (with_object (transport_name protocol) (transport_members (test_data test) (test_data other)) no_members)

abbrev ReadsAgain : Family → Option PrefixValue → Option PrefixValue → Option ℕ → PortTest → PortTest → Type 0
ReadsAgain family source destination protocol test other =
    otherwise every_packet (matches_of family) (object_if (printed_matches family source destination protocol test other))
    ≡ Ok (record { source = source; destination = destination; protocol = protocol; source_port = test; destination_port = other })

fields_again : (family : Family) (source destination : Option PrefixValue) (protocol : Option ℕ) (test other : PortTest)
    → IsIn family source → IsIn family destination → IsBelow 256 protocol → IsValid source → IsValid destination → IsTest test → IsTest other → IsTested test other protocol
    → ReadsAgain family source destination protocol test other
fields_again family source destination protocol test other one two three good good' fits fits' tested =
    elim (tested_either test other protocol tested) [
      | inl none ↦
          subst (λ (t : PortTest). ReadsAgain family source destination protocol t other) (sym none.0) (
          subst (λ (t : PortTest). ReadsAgain family source destination protocol port.Any t) (sym none.1) (
          untested_again family (header_members family (option_data prefix_data source) (option_data prefix_data destination) (option_data number_data protocol)) (record { source = source; destination = destination; protocol = protocol }) (header_again family source destination protocol one two three good good')))
      | inr some ↦
          let inner = header_members family (option_data prefix_data source) (option_data prefix_data destination) None in
          let header : Network = record { source = source; destination = destination; protocol = None } in
          let again = header_again family source destination None one two tt good good' in
          elim some.transport [
            | inl six ↦
                subst (λ (p : Option ℕ). ReadsAgain family source destination p test other) (sym six) (
                let unnamed = subst (λ (p : Option ℕ). untested (test_data test) (test_data other) p ≡ None) six some.unnamed in
                rw (unnamed, some.members) (tcp_again family inner header some.first some.value some.others test other refl again (subst (λ (ms : Members). transport_of the.Tcp 6 (object ms) ≡ Ok (record { protocol = 6; source = test; destination = other })) some.members (transport_again the.Tcp 6 test other fits fits'))))
            | inr seventeen ↦
                subst (λ (p : Option ℕ). ReadsAgain family source destination p test other) (sym seventeen) (
                let unnamed = subst (λ (p : Option ℕ). untested (test_data test) (test_data other) p ≡ None) seventeen some.unnamed in
                rw (unnamed, some.members) (udp_again family inner header some.first some.value some.others test other refl again (subst (λ (ms : Members). transport_of the.Udp 17 (object ms) ≡ Ok (record { protocol = 17; source = test; destination = other })) some.members (transport_again the.Udp 17 test other fits fits'))))
          ]
    ]

-- ---- printed entries are read again

actions_again : (accept : Bool) → actions_of (actions_data accept) ≡ Ok accept
actions_again true = refl
actions_again false = refl

pub entry_again : (family : Family) (entry : Ace) → Fits family entry → HasPrefixes entry → entry_of family (entry_data family entry) ≡ Ok entry
entry_again family entry fits valid =
    let inner = matches_members family entry in
    let names = member (codes "name") (string entry.name) no_members in
    let known = only_object (may_have shape.Entry) (codes "matches") inner names refl refl in
    let found = object_here (codes "matches") inner names refl refl in
    let matches = fields_again family entry.source entry.destination entry.protocol entry.source_port entry.destination_port fits.source fits.destination fits.protocol valid.0 valid.1 fits.source_port fits.destination_port fits.tested in
    let name = object_past (codes "name") (codes "matches") inner names (λ x y. refl) in
    rw (known, found, matches, actions_again entry.accept, name, name_again the.Name entry.name fits.name) refl

-- ---- what was read fits

given_below : (bound : ℕ) (m : Member) (o : Option Data) (value : Option ℕ) → given (number_below bound m) o ≡ Ok value → IsBelow bound value
given_below bound m None value is = subst (λ (v : Option ℕ). IsBelow bound v) (ok_same None value is) tt
given_below bound m (Some d) value is =
    let read = bound_ok (number_below bound m d) (λ n. Ok (Some n)) value is in
    subst (λ (v : Option ℕ). IsBelow bound v) (ok_same (Some read.0) value read.2) (number_bound bound m d read.0 read.1)

operated_read : (m : Member) (by : Option Operator) (number : Option ℕ) (test : PortTest) → IsBelow 65536 number → operated m by number ≡ Ok test → IsTest test
operated_read m (Some operator.Lte) (Some number) test small is = subst IsTest (ok_same (port.Lte number) test is) small
operated_read m (Some operator.Gte) (Some number) test small is = subst IsTest (ok_same (port.Gte number) test is) small
operated_read m (Some operator.Eq) (Some number) test small is = subst IsTest (ok_same (port.Eq number) test is) small
operated_read m (Some operator.Neq) (Some number) test small is = subst IsTest (ok_same (port.Neq number) test is) small
operated_read m (Some by) None test small is = absurd (cc)
operated_read m None number test small is = absurd (cc)

range_read : (lower upper : ℕ) (test : PortTest) → nat_lt lower 65536 ≡ true → nat_lt upper 65536 ≡ true → range_test lower upper ≡ Ok test → IsTest test
range_read lower upper test low high is =
    let read = bound_ok (range_between lower upper) (λ range. Ok (port.Range range)) test is in
    let ordered = ordered_ports lower upper read.0 (nat_le lower upper) refl read.1 in
    subst IsTest (ap port.Range ordered.1 ∙ ok_same (port.Range read.0) test read.2) (low, high, ordered.0)

ranged_read : (lower upper : Option ℕ) (test : PortTest) → IsBelow 65536 lower → IsBelow 65536 upper → ranged lower upper ≡ Ok test → IsTest test
ranged_read (Some lower) (Some upper) test low high is = range_read lower upper test low high is
ranged_read (Some lower) None test low high is = absurd (cc)
ranged_read None upper test low high is = absurd (cc)

either_read : (m : Member) (by : Option Operator) (number lower upper : Option ℕ) (test : PortTest) → IsBelow 65536 number → IsBelow 65536 lower → IsBelow 65536 upper → either_form m by number lower upper ≡ Ok test → IsTest test
either_read m by number None None test small low high is = operated_read m by number test small is
either_read m None None (Some lower) upper test small low high is = ranged_read (Some lower) upper test low high is
either_read m None None None (Some upper) test small low high is = ranged_read None (Some upper) test low high is
either_read m (Some by) number (Some lower) upper test small low high is = absurd (cc)
either_read m (Some by) number None (Some upper) test small low high is = absurd (cc)
either_read m None (Some number) (Some lower) upper test small low high is = absurd (cc)
either_read m None (Some number) None (Some upper) test small low high is = absurd (cc)

abbrev behind_lower : Member → Data → Option Operator → Option ℕ → Option ℕ → Result PortTest ListFault
behind_lower m d by number lower = given (port_of the.UpperPort) (get (codes "upper-port") d) >>= either_form m by number lower

abbrev behind_number : Member → Data → Option Operator → Option ℕ → Result PortTest ListFault
behind_number m d by number = given (port_of the.LowerPort) (get (codes "lower-port") d) >>= behind_lower m d by number

abbrev behind_operator : Member → Data → Option Operator → Result PortTest ListFault
behind_operator m d by = given (port_of the.Port) (get (codes "port") d) >>= behind_number m d by

abbrev behind_object : Member → Data → Unit {0} → Result PortTest ListFault
behind_object m d done = given (word_of operator_in the.Operator) (get (codes "operator") d) >>= behind_operator m d

port_read : (m : Member) (d : Data) (test : PortTest) → port_test_of m d ≡ Ok test → IsTest test
port_read m d test is =
    let whole = bound_ok (whole_object shape.PortTest m d) (behind_object m d) test is in
    let by = bound_ok (given (word_of operator_in the.Operator) (get (codes "operator") d)) (behind_operator m d) test whole.2 in
    let number = bound_ok (given (port_of the.Port) (get (codes "port") d)) (behind_number m d by.0) test by.2 in
    let lower = bound_ok (given (port_of the.LowerPort) (get (codes "lower-port") d)) (behind_lower m d by.0 number.0) test number.2 in
    let upper = bound_ok (given (port_of the.UpperPort) (get (codes "upper-port") d)) (either_form m by.0 number.0 lower.0) test lower.2 in
    either_read m by.0 number.0 lower.0 upper.0 test (given_below 65536 the.Port (get (codes "port") d) number.0 number.1) (given_below 65536 the.LowerPort (get (codes "lower-port") d) lower.0 lower.1) (given_below 65536 the.UpperPort (get (codes "upper-port") d) upper.0 upper.1) upper.2

spelling_read : (m : Member) (short long : Option Data) (test : PortTest) → one_spelling m short long ≡ Ok test → IsTest test
spelling_read m (Some d) (Some e) test is = absurd (cc)
spelling_read m (Some d) None test is = port_read m d test is
spelling_read m None (Some d) test is = port_read m d test is
spelling_read m None None test is = subst IsTest (ok_same port.Any test is) tt

abbrev behind_source : ℕ → Data → PortTest → Result Transport ListFault
behind_source protocol d source = one_spelling the.DestinationPort (get (codes "destination-port") d) (get (codes "destination-port-range-or-operator") d) >>= λ destination. Ok (record { protocol = protocol; source = source; destination = destination })

abbrev behind_transport : ℕ → Data → Unit {0} → Result Transport ListFault
behind_transport protocol d done = one_spelling the.SourcePort (get (codes "source-port") d) (get (codes "source-port-range-or-operator") d) >>= behind_source protocol d

abbrev FitsPorts : ℕ → Transport → Type 0
FitsPorts protocol transport = (transport.protocol ≡ protocol) × IsTest transport.source × IsTest transport.destination

transport_read : (m : Member) (protocol : ℕ) (d : Data) (transport : Transport) → transport_of m protocol d ≡ Ok transport → FitsPorts protocol transport
transport_read m protocol d transport is =
    let whole = bound_ok (whole_object shape.Transport m d) (behind_transport protocol d) transport is in
    let source = bound_ok (one_spelling the.SourcePort (get (codes "source-port") d) (get (codes "source-port-range-or-operator") d)) (behind_source protocol d) transport whole.2 in
    let destination = bound_ok (one_spelling the.DestinationPort (get (codes "destination-port") d) (get (codes "destination-port-range-or-operator") d)) (λ destination. Ok (record { protocol = protocol; source = source.0; destination = destination })) transport source.2 in
    let same = ok_same (record { protocol = protocol; source = source.0; destination = destination.0 }) transport destination.2 in
    subst (FitsPorts protocol) same (refl, spelling_read the.SourcePort (get (codes "source-port") d) (get (codes "source-port-range-or-operator") d) source.0 source.1, spelling_read the.DestinationPort (get (codes "destination-port") d) (get (codes "destination-port-range-or-operator") d) destination.0 destination.1)

present_read : (read : Result Transport ListFault) (found : Option Transport) → present read ≡ Ok found → (transport : Transport) × (read ≡ Ok transport) × (Some transport ≡ found)
present_read (Ok transport) found is = (transport, refl, ok_same (Some transport) found is)
present_read (Err e) found is = absurd (cc)

abbrev FitsTransport : Option Transport → Type 0
FitsTransport None = Unit {0}
FitsTransport (Some transport) = ((transport.protocol ≡ 6) ⊎ (transport.protocol ≡ 17)) × IsTest transport.source × IsTest transport.destination

one_read : (tcp udp : Option Data) (found : Option Transport) → one_transport tcp udp ≡ Ok found → FitsTransport found
one_read None None found is = subst FitsTransport (ok_same None found is) tt
one_read (Some d) None found is =
    let read = present_read (transport_of the.Tcp 6 d) found is in
    let fits = transport_read the.Tcp 6 d read.0 read.1 in
    subst FitsTransport read.2 (inl fits.0, fits.1, fits.2)
one_read None (Some d) found is =
    let read = present_read (transport_of the.Udp 17 d) found is in
    let fits = transport_read the.Udp 17 d read.0 read.1 in
    subst FitsTransport read.2 (inr fits.0, fits.1, fits.2)
one_read (Some d) (Some e) found is = absurd (cc)

family_checked : (family : Family) (m : Member) (p q : PrefixValue) (test : Bool) → same_family p.family family ≡ test → (if test then Ok p else Err (faults.Invalid m)) ≡ Ok q → same_family q.family family ≡ true
family_checked family m p q true same is = subst (λ (r : PrefixValue). same_family r.family family ≡ true) (ok_same p q is) same
family_checked family m p q false other is = absurd (cc)

given_network : (family : Family) (m : Member) (o : Option Data) (value : Option PrefixValue) → given (network_of family m) o ≡ Ok value → IsIn family value
given_network family m None value is = subst (IsIn family) (ok_same None value is) tt
given_network family m (Some d) value is =
    let read = bound_ok (network_of family m d) (λ p. Ok (Some p)) value is in
    let prefix = bound_ok (prefix_of m d) (in_family family m) read.0 read.1 in
    subst (IsIn family) (ok_same (Some read.0) value read.2) (family_checked family m prefix.0 read.0 (same_family prefix.0.family family) refl prefix.2)

abbrev FitsHeader : Family → Network → Type 0
FitsHeader family header = IsIn family header.source × IsIn family header.destination × IsBelow 256 header.protocol

abbrev behind_destination : Data → Option PrefixValue → Option PrefixValue → Result Network ListFault
behind_destination d source destination = given (protocol_of the.Protocol) (get (codes "protocol") d) >>= λ protocol. Ok (record { source = source; destination = destination; protocol = protocol })

abbrev behind_network : Family → Data → Option PrefixValue → Result Network ListFault
behind_network family d source = given (network_of family the.DestinationNetwork) (get (destination_name family) d) >>= behind_destination d source

abbrev behind_header : Family → Data → Unit {0} → Result Network ListFault
behind_header family d done = given (network_of family the.SourceNetwork) (get (source_name family) d) >>= behind_network family d

header_read : (family : Family) (o : Option Data) (header : Network) → otherwise no_header (header_of family) o ≡ Ok header → FitsHeader family header
header_read family None header is = subst (FitsHeader family) (ok_same no_header header is) (tt, tt, tt)
header_read family (Some d) header is =
    let whole = bound_ok (whole_object (header_shape family) (header_member family) d) (behind_header family d) header is in
    let source = bound_ok (given (network_of family the.SourceNetwork) (get (source_name family) d)) (behind_network family d) header whole.2 in
    let destination = bound_ok (given (network_of family the.DestinationNetwork) (get (destination_name family) d)) (behind_destination d source.0) header source.2 in
    let protocol = bound_ok (given (protocol_of the.Protocol) (get (codes "protocol") d)) (λ protocol. Ok (record { source = source.0; destination = destination.0; protocol = protocol })) header destination.2 in
    let same = ok_same (record { source = source.0; destination = destination.0; protocol = protocol.0 }) header protocol.2 in
    subst (FitsHeader family) same (
      given_network family the.SourceNetwork (get (source_name family) d) source.0 source.1,
      given_network family the.DestinationNetwork (get (destination_name family) d) destination.0 destination.1,
      given_below 256 the.Protocol (get (codes "protocol") d) protocol.0 protocol.1,
    )

tested_of : (source destination : PortTest) (protocol : Option ℕ) → (protocol ≡ Some 6) ⊎ (protocol ≡ Some 17) → IsTested source destination protocol
tested_of port.Any port.Any protocol is = tt
tested_of port.Any (port.Eq x) protocol is = is
tested_of port.Any (port.Neq x) protocol is = is
tested_of port.Any (port.Lte x) protocol is = is
tested_of port.Any (port.Gte x) protocol is = is
tested_of port.Any (port.Range x) protocol is = is
tested_of (port.Eq x) destination protocol is = is
tested_of (port.Neq x) destination protocol is = is
tested_of (port.Lte x) destination protocol is = is
tested_of (port.Gte x) destination protocol is = is
tested_of (port.Range x) destination protocol is = is

protocol_small : (protocol : ℕ) → (protocol ≡ 6) ⊎ (protocol ≡ 17) → IsBelow 256 (Some protocol)
protocol_small protocol (inl six) = subst (λ n. nat_lt n 256 ≡ true) (sym six) refl
protocol_small protocol (inr seventeen) = subst (λ n. nat_lt n 256 ≡ true) (sym seventeen) refl

protocol_is : (protocol : ℕ) → (protocol ≡ 6) ⊎ (protocol ≡ 17) → (Some protocol ≡ Some 6) ⊎ (Some protocol ≡ Some 17)
protocol_is protocol (inl six) = inl (ap Some six)
protocol_is protocol (inr seventeen) = inr (ap Some seventeen)

abbrev FitsProtocol : Option Transport → Option ℕ → Type 0
FitsProtocol transport protocol = IsBelow 256 protocol × IsTested (source_test transport) (destination_test transport) protocol

transport_protocol : (transport : Transport) → FitsTransport (Some transport) → FitsProtocol (Some transport) (Some transport.protocol)
transport_protocol transport fits = (protocol_small transport.protocol fits.0, tested_of transport.source transport.destination (Some transport.protocol) (protocol_is transport.protocol fits.0))

named_checked : (named : ℕ) (transport : Transport) (protocol : Option ℕ) (test : Bool) → FitsTransport (Some transport) → (named == transport.protocol) ≡ test → (if test then Ok (Some named) else Err (faults.Invalid the.Protocol)) ≡ Ok protocol → FitsProtocol (Some transport) protocol
named_checked named transport protocol true fits same is =
    let equal = eqb-true named transport.protocol same in
    subst (FitsProtocol (Some transport)) (ap Some (sym equal) ∙ ok_same (Some named) protocol is) (transport_protocol transport fits)
named_checked named transport protocol false fits other is = absurd (cc)

agreed_read : (named : Option ℕ) (transport : Option Transport) (protocol : Option ℕ) → IsBelow 256 named → FitsTransport transport → agreed named transport ≡ Ok protocol → FitsProtocol transport protocol
agreed_read named None protocol small fits is = subst (FitsProtocol None) (ok_same named protocol is) (small, tt)
agreed_read None (Some transport) protocol small fits is = subst (FitsProtocol (Some transport)) (ok_same (Some transport.protocol) protocol is) (transport_protocol transport fits)
agreed_read (Some named) (Some transport) protocol small fits is = named_checked named transport protocol (named == transport.protocol) fits refl is

abbrev FitsMatches : Family → Matches → Type 0
FitsMatches family matches =
    IsIn family matches.source
    × IsIn family matches.destination
    × IsBelow 256 matches.protocol
    × IsTest matches.source_port
    × IsTest matches.destination_port
    × IsTested matches.source_port matches.destination_port matches.protocol

tests_fit : (transport : Option Transport) → FitsTransport transport → IsTest (source_test transport) × IsTest (destination_test transport)
tests_fit None fits = (tt, tt)
tests_fit (Some transport) fits = (fits.1, fits.2)

abbrev joined_with : Network → Option Transport → Option ℕ → Matches
joined_with header transport protocol = record {
  source = header.source;
  destination = header.destination;
  protocol = protocol;
  source_port = source_test transport;
  destination_port = destination_test transport;
}

joined_read : (family : Family) (header : Network) (transport : Option Transport) (matches : Matches) → FitsHeader family header → FitsTransport transport → joined header transport ≡ Ok matches → FitsMatches family matches
joined_read family header transport matches fits fits' is =
    let read = bound_ok (agreed header.protocol transport) (λ protocol. Ok (joined_with header transport protocol)) matches is in
    let protocol = agreed_read header.protocol transport read.0 fits.2 fits' read.1 in
    let tests = tests_fit transport fits' in
    subst (FitsMatches family) (ok_same (joined_with header transport read.0) matches read.2) (fits.0, fits.1, protocol.0, tests.0, tests.1, protocol.1)

abbrev behind_own : Data → Network → Result Matches ListFault
behind_own d header = with_transport header (get (codes "tcp") d) (get (codes "udp") d)

abbrev behind_absent : Family → Data → Unit {0} → Result Matches ListFault
behind_absent family d done = otherwise no_header (header_of family) (get (header_name family) d) >>= behind_own d

abbrev behind_matches : Family → Data → Unit {0} → Result Matches ListFault
behind_matches family d done = absent (other_header_member family) (get (other_header_name family) d) >>= behind_absent family d

matches_read : (family : Family) (o : Option Data) (matches : Matches) → otherwise every_packet (matches_of family) o ≡ Ok matches → FitsMatches family matches
matches_read family None matches is = subst (FitsMatches family) (ok_same every_packet matches is) (tt, tt, tt, tt, tt, tt)
matches_read family (Some d) matches is =
    let whole = bound_ok (whole_object shape.Matches the.Matches d) (behind_matches family d) matches is in
    let other = bound_ok (absent (other_header_member family) (get (other_header_name family) d)) (behind_absent family d) matches whole.2 in
    let header = bound_ok (otherwise no_header (header_of family) (get (header_name family) d)) (behind_own d) matches other.2 in
    let transport = bound_ok (one_transport (get (codes "tcp") d) (get (codes "udp") d)) (joined header.0) matches header.2 in
    joined_read family header.0 transport.0 matches (header_read family (get (header_name family) d) header.0 header.1) (one_read (get (codes "tcp") d) (get (codes "udp") d) transport.0 transport.1) transport.2

abbrev behind_actions : Data → Matches → Bool → Result Ace ListFault
behind_actions d matches accept = needed the.Name (name_of the.Name) (get (codes "name") d) >>= λ name. Ok (entry_with name matches accept)

abbrev behind_entry : Family → Data → Unit {0} → Result Ace ListFault
behind_entry family d done = otherwise every_packet (matches_of family) (get (codes "matches") d) >>= λ matches. entry_matching matches d

pub entry_read : (family : Family) (d : Data) (entry : Ace) → entry_of family d ≡ Ok entry → Fits family entry
entry_read family d entry is =
    let whole = bound_ok (whole_object shape.Entry the.Ace d) (behind_entry family d) entry is in
    let matches = bound_ok (otherwise every_packet (matches_of family) (get (codes "matches") d)) (λ matches. entry_matching matches d) entry whole.2 in
    let accept = bound_ok (needed the.Actions actions_of (get (codes "actions") d)) (behind_actions d matches.0) entry matches.2 in
    let name = bound_ok (needed the.Name (name_of the.Name) (get (codes "name") d)) (λ name. Ok (entry_with name matches.0 accept.0)) entry accept.2 in
    let fits = matches_read family (get (codes "matches") d) matches.0 matches.1 in
    let made : Fits family (entry_with name.0 matches.0 accept.0) = record {
      name = needed_name (get (codes "name") d) name.0 name.1;
      source = fits.0;
      destination = fits.1;
      protocol = fits.2;
      source_port = fits.3;
      destination_port = fits.4;
      tested = fits.5;
    } in
    subst (Fits family) (ok_same (entry_with name.0 matches.0 accept.0) entry name.2) made

-- ---- the list

pub entries_same : (entries aces : List Ace) → some_entries entries ≡ Ok aces → entries ≡ aces
entries_same [] aces is = absurd (cc)
entries_same (entry ∷ entries) aces is = entries_checked (distinct (entry ∷ entries)) is where
  entries_checked : (test : Bool) → (if test then Ok (entry ∷ entries) else Err (faults.Invalid the.Name)) ≡ Ok aces → entry ∷ entries ≡ aces
  entries_checked true is = ok_same (entry ∷ entries) aces is
  entries_checked false is = absurd (cc)

aces_made : (family : Family) (aces : List Ace) → some_entries aces ≡ Ok aces → items_in the.Ace MAX_ACES (entry_of family) (printed_items (entry_data family) aces) ≡ Ok aces → aces_of family (aces_data family aces) ≡ Ok aces
aces_made family [] some again = absurd (cc)
aces_made family (entry ∷ entries) some again = rw again some

abbrev pub behind_aces : Family → Data → Unit {0} → Result (List Ace) ListFault
behind_aces family d done = items_in the.Ace MAX_ACES (entry_of family) (get (codes "ace") d) >>= some_entries

aces_again : (family : Family) (d : Data) (aces : List Ace) → AllByRecursion HasPrefixes aces → aces_of family d ≡ Ok aces → aces_of family (aces_data family aces) ≡ Ok aces
aces_again family d aces valid is =
    let whole = bound_ok (whole_object shape.Aces the.Aces d) (behind_aces family d) aces is in
    let items = bound_ok (items_in the.Ace MAX_ACES (entry_of family) (get (codes "ace") d)) some_entries aces whole.2 in
    let same = entries_same items.0 aces items.2 in
    let some = subst (λ (xs : List Ace). some_entries xs ≡ Ok aces) same items.2 in
    let read = subst (λ (xs : List Ace). items_in the.Ace MAX_ACES (entry_of family) (get (codes "ace") d) ≡ Ok xs) same items.1 in
    let again = items_again HasPrefixes the.Ace MAX_ACES (entry_of family) (entry_data family) (λ e x good found. entry_again family x (entry_read family e x found) good) (get (codes "ace") d) aces valid read in
    aces_made family aces some again

needed_aces : (family : Family) (o : Option Data) (aces : List Ace) → AllByRecursion HasPrefixes aces → needed the.Aces (aces_of family) o ≡ Ok aces → aces_of family (aces_data family aces) ≡ Ok aces
needed_aces family None aces valid is = absurd (cc)
needed_aces family (Some d) aces valid is = aces_again family d aces valid is

family_again : (family : Family) → word_of family_in the.AclKind (string (family_text family)) ≡ Ok family
family_again V4 = refl
family_again V6 = refl

activation_again : (active : Activation) → word_of activation_in the.ActivationType (string (activation_text active)) ≡ Ok active
activation_again activation.WhenMitigating = refl
activation_again activation.Immediate = refl
activation_again activation.Deactivate = refl

abbrev pub behind_activation : Data → List ℕ → Family → Activation → Result Acl ListFault
behind_activation d name family active = needed the.Aces (aces_of family) (get (codes "aces") d) >>= λ aces. Ok (record { name = name; family = family; activation = active; aces = aces })

abbrev pub behind_family : Data → List ℕ → Family → Result Acl ListFault
behind_family d name family = otherwise activation.WhenMitigating (word_of activation_in the.ActivationType) (get (codes "activation-type") d) >>= behind_activation d name family

abbrev pub behind_name : Data → List ℕ → Result Acl ListFault
behind_name d name = needed the.AclKind (word_of family_in the.AclKind) (get (codes "type") d) >>= behind_family d name

abbrev pub behind_list : Data → Unit {0} → Result Acl ListFault
behind_list d done = needed the.Name (name_of the.Name) (get (codes "name") d) >>= behind_name d

-- **an access list that was read is what its printed form is read as**
pub acl_again : (d : Data) (acl : Acl) → AllByRecursion HasPrefixes acl.aces → acl_in d ≡ Ok acl → acl_in (acl_data acl) ≡ Ok acl
acl_again d acl valid is =
    let whole = bound_ok (whole_object shape.List the.Acl d) (behind_list d) acl is in
    let name = bound_ok (needed the.Name (name_of the.Name) (get (codes "name") d)) (behind_name d) acl whole.2 in
    let family = bound_ok (needed the.AclKind (word_of family_in the.AclKind) (get (codes "type") d)) (behind_family d name.0) acl name.2 in
    let active = bound_ok (otherwise activation.WhenMitigating (word_of activation_in the.ActivationType) (get (codes "activation-type") d)) (behind_activation d name.0 family.0) acl family.2 in
    let aces = bound_ok (needed the.Aces (aces_of family.0) (get (codes "aces") d)) (λ aces. Ok (record { name = name.0; family = family.0; activation = active.0; aces = aces })) acl active.2 in
    let same = ok_same (record { name = name.0; family = family.0; activation = active.0; aces = aces.0 }) acl aces.2 in
    let all = subst (λ (a : Acl). AllByRecursion HasPrefixes a.aces) (sym same) valid in
    let entries = needed_aces family.0 (get (codes "aces") d) aces.0 all aces.1 in
    subst (λ (a : Acl). acl_in (acl_data a) ≡ Ok a) same (rw (name_again the.Name name.0 (needed_name (get (codes "name") d) name.0 name.1), family_again family.0, activation_again active.0, entries) refl)
