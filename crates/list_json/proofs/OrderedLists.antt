-- The members of an access list, put in one after the other.
use Rattle.std.proofs.Common.{◌≡◌, ℕ, ◌==◌, List, Option, Some, None, true, false, refl, ap, ◌∙◌, Less}
use Rattle.std.specs.Prelude.{codes, if◌then◌else◌}
use Rattle.std.specs.Cmp.Lexicographic.{slice_cmp}
use Rattle.std.specs.Ordering.{nat_cmp}
use Rattle.acl_lists.specs.declared.ace.Ace.{Ace}
use Rattle.ip_scope.specs.declared.family.Family.{Family}
use Rattle.ip_scope.specs.declared.family.Family.TheVariants.{V4, V6}
use Rattle.serde_json.specs.Data.{Data, object, Members, no_members, member, put}
use Rattle.list_json.specs.ListPrinting.{with_value, with_object, transport_members, transport_name, header_members, entry_header, entry_transport, matches_members}
use Rattle.list_json.specs.Lists.{header_name, source_name, destination_name}
use Rattle.list_json.specs.Putting.{put_value, put_object}
use Rattle.list_json.proofs.Ordered.{IsBefore, put_first}

pub put_value_first : (name : List ℕ) (value : Option Data) (ms : Members) → IsBefore name ms → put_value name value ms ≡ with_value name value ms
put_value_first name None ms before = refl
put_value_first name (Some d) ms before = put_first name d ms before

pub put_object_first : (name : List ℕ) (inner ms : Members) → IsBefore name ms → put_object name inner ms ≡ with_object name inner ms
put_object_first name no_members ms before = refl
put_object_first name (member first d inner) ms before = put_first name (object (member first d inner)) ms before

before_value : (name later : List ℕ) (value : Option Data) (ms : Members) → slice_cmp nat_cmp name later ≡ Less → IsBefore name ms → IsBefore name (with_value later value ms)
before_value name later None ms first before = before
before_value name later (Some d) ms first before = first

before_object : (name later : List ℕ) (inner ms : Members) → slice_cmp nat_cmp name later ≡ Less → IsBefore name ms → IsBefore name (with_object later inner ms)
before_object name later no_members ms first before = before
before_object name later (member k d inner) ms first before = first

-- ---- ports

pub transport_put : (source destination : Option Data) (one both : Members)
    → one ≡ put_value (codes "source-port-range-or-operator") source no_members
    → both ≡ put_value (codes "destination-port-range-or-operator") destination one
    → both ≡ transport_members source destination
transport_put source destination one both p q =
    let p' = p ∙ put_value_first (codes "source-port-range-or-operator") source no_members tt in
    q
    ∙ ap (put_value (codes "destination-port-range-or-operator") destination) p'
    ∙ put_value_first (codes "destination-port-range-or-operator") destination (with_value (codes "source-port-range-or-operator") source no_members) (before_value (codes "destination-port-range-or-operator") (codes "source-port-range-or-operator") source no_members refl tt)

-- ---- headers

protocol_first : (family : Family) → slice_cmp nat_cmp (codes "protocol") (source_name family) ≡ Less
protocol_first V4 = refl
protocol_first V6 = refl

destination_first : (family : Family) → slice_cmp nat_cmp (destination_name family) (codes "protocol") ≡ Less
destination_first V4 = refl
destination_first V6 = refl

destination_before_source : (family : Family) → slice_cmp nat_cmp (destination_name family) (source_name family) ≡ Less
destination_before_source V4 = refl
destination_before_source V6 = refl

pub header_put : (family : Family) (source destination protocol : Option Data) (one two three : Members)
    → one ≡ put_value (source_name family) source no_members
    → two ≡ put_value (codes "protocol") protocol one
    → three ≡ put_value (destination_name family) destination two
    → three ≡ header_members family source destination protocol
header_put family source destination protocol one two three p q r =
    let sources = with_value (source_name family) source no_members in
    let protocols = with_value (codes "protocol") protocol sources in
    let p' = p ∙ put_value_first (source_name family) source no_members tt in
    let q' = q ∙ ap (put_value (codes "protocol") protocol) p' ∙ put_value_first (codes "protocol") protocol sources (before_value (codes "protocol") (source_name family) source no_members (protocol_first family) tt) in
    r
    ∙ ap (put_value (destination_name family) destination) q'
    ∙ put_value_first (destination_name family) destination protocols (before_value (destination_name family) (codes "protocol") protocol sources (destination_first family) (before_value (destination_name family) (source_name family) source no_members (destination_before_source family) tt))

-- ---- matches

header_first : (family : Family) (protocol : Option ℕ) → slice_cmp nat_cmp (header_name family) (transport_name protocol) ≡ Less
header_first V4 None = refl
header_first V6 None = refl
header_first V4 (Some protocol) = elim (protocol == 17) as (λ udp. slice_cmp nat_cmp (codes "ipv4") (if udp then codes "udp" else codes "tcp") ≡ Less) [ true ↦ refl | false ↦ refl ]
header_first V6 (Some protocol) = elim (protocol == 17) as (λ udp. slice_cmp nat_cmp (codes "ipv6") (if udp then codes "udp" else codes "tcp") ≡ Less) [ true ↦ refl | false ↦ refl ]

pub matches_put : (family : Family) (entry : Ace) (one both : Members)
    → one ≡ put_object (transport_name entry.protocol) (entry_transport entry) no_members
    → both ≡ put_object (header_name family) (entry_header family entry) one
    → both ≡ matches_members family entry
matches_put family entry one both p q =
    let transports = with_object (transport_name entry.protocol) (entry_transport entry) no_members in
    let p' = p ∙ put_object_first (transport_name entry.protocol) (entry_transport entry) no_members tt in
    q
    ∙ ap (put_object (header_name family) (entry_header family entry)) p'
    ∙ put_object_first (header_name family) (entry_header family entry) transports (before_object (header_name family) (transport_name entry.protocol) (entry_transport entry) no_members (header_first family entry.protocol) tt)

-- ---- entries

pub entry_put : (actions : Data) (matches : Members) (name : Data) (one two three : Members)
    → one ≡ put (codes "name") name no_members
    → two ≡ put_object (codes "matches") matches one
    → three ≡ put (codes "actions") actions two
    → three ≡ member (codes "actions") actions (with_object (codes "matches") matches (member (codes "name") name no_members))
entry_put actions matches name one two three p q r =
    let names = member (codes "name") name no_members in
    let both = with_object (codes "matches") matches names in
    let q' = q ∙ ap (put_object (codes "matches") matches) p ∙ put_object_first (codes "matches") matches names refl in
    r ∙ ap (put (codes "actions") actions) q' ∙ put_first (codes "actions") actions both (before_object (codes "actions") (codes "matches") matches names refl refl)
