-- An alias that is printed is read again.
use Rattle.std.proofs.Common.{◌≡◌, ℕ, List, [], ◌∷◌, Option, Some, None, Result, Ok, Err, Bool, true, false, refl, sym, ap, ◌∙◌, subst, nat_le, nat_lt, Equal}
use Rattle.std.specs.Prelude.{codes, if◌then◌else◌}
use Rattle.std.specs.Cmp.Lexicographic.{slice_cmp}
use Rattle.std.specs.List.{AllByRecursion}
use Rattle.std.specs.Ordering.{nat_cmp, match_ordering}
use Rattle.acl_lists.specs.declared.alias.Alias.{Alias}
use Rattle.acl_lists.specs.declared.asked.Asked.{Asked}
use Rattle.ip_scope.specs.Ports.{Ports}
use Rattle.ip_scope.specs.Prefix.{PrefixValue, IsPrefix}
use Rattle.serde_json.specs.Data.{Data, string, Members, no_members}
use Rattle.serde_json.specs.Find.{get, get_member}
use Rattle.list_json.specs.declared.fault.Member.TheVariants as the
use Rattle.list_json.specs.declared.fault.Member.{Member}
use Rattle.list_json.specs.declared.fault.ListFault.{ListFault}
use Rattle.list_json.specs.declared.fault.ListFault.TheVariants as faults
use Rattle.dots_lists.specs.Name.{is_name}
use Rattle.list_json.specs.declared.shape.Shape.TheVariants as shape
use Rattle.list_json.specs.Aliases.{range_between, range_of, with_target, targets_of, alias_in}
use Rattle.list_json.specs.AliasPrinting.{number_data, prefix_data, range_data, with_items, alias_data}
use Rattle.list_json.specs.Shapes.{may_have, only, whole_object}
use Rattle.list_json.specs.Steps.{◌>>=◌, needed, otherwise, items_in}
use Rattle.list_json.specs.Values.{name_of, prefix_of, protocol_of, port_of}
use Rattle.list_json.proofs.Again.{bound_ok, ok_same, name_bound, name_again, number_bound, number_again, prefix_again, printed_items, items_again}
use Rattle.acl_lists.specs.declared.limits.TheConstants.{MAX_ITEMS, MAX_NAMES}

-- ---- members by their names

get_here : {A : Type 0} (name : List ℕ) (write : A → Data) (xs : List A) (rest : Members) → slice_cmp nat_cmp name name ≡ Equal → get_member name rest ≡ None → get_member name (with_items name write xs rest) ≡ printed_items write xs
get_here name write [] rest same none = none
get_here name write (x ∷ xs) rest same none = rw same refl

-- a name that another member hasn't
abbrev IsOther : List ℕ → List ℕ → Type 0
IsOther name other = (x y : Option Data) → match_ordering (slice_cmp nat_cmp name other) x y x ≡ x

get_past : {A : Type 0} (name other : List ℕ) (write : A → Data) (xs : List A) (rest : Members) → IsOther name other → get_member name (with_items other write xs rest) ≡ get_member name rest
get_past name other write [] rest apart = refl
get_past name other write (x ∷ xs) rest apart = apart (get_member name rest) _

only_items : {A : Type 0} (known : List ℕ → Bool) (name : List ℕ) (write : A → Data) (xs : List A) (rest : Members) → known name ≡ true → only known rest ≡ true → only known (with_items name write xs rest) ≡ true
only_items known name write [] rest here later = later
only_items known name write (x ∷ xs) rest here later = rw here later

-- ---- ranges

pub ordered_ports : (lower upper : ℕ) (range : Ports) (test : Bool) → nat_le lower upper ≡ test → (if test then Ok (record { lower = lower; upper = upper }) else Err (faults.Invalid the.UpperPort)) ≡ Ok range
    → (nat_le lower upper ≡ true) × (record { lower = lower; upper = upper } ≡ range)
ordered_ports lower upper range true ordered is = (ordered, ok_same (record { lower = lower; upper = upper }) range is)
ordered_ports lower upper range false below is = absurd (cc)

needed_port : (m : Member) (o : Option Data) (n : ℕ) → needed m (port_of m) o ≡ Ok n → nat_lt n 65536 ≡ true
needed_port m None n is = absurd (cc)
needed_port m (Some d) n is = number_bound 65536 m d n is

other_port : (m : Member) (o : Option Data) (default n : ℕ) → nat_lt default 65536 ≡ true → otherwise default (port_of m) o ≡ Ok n → nat_lt n 65536 ≡ true
other_port m None default n small is = subst (λ (k : ℕ). nat_lt k 65536 ≡ true) (ok_same default n is) small
other_port m (Some d) default n small is = number_bound 65536 m d n is

ports_again : (lower upper : ℕ) → nat_lt lower 65536 ≡ true → nat_lt upper 65536 ≡ true → nat_le lower upper ≡ true → range_of (range_data (record { lower = lower; upper = upper })) ≡ Ok (record { lower = lower; upper = upper })
ports_again lower upper low high ordered = rw (low, high, ordered) refl

range_again : (d : Data) (range : Ports) → range_of d ≡ Ok range → range_of (range_data range) ≡ Ok range
range_again d range is =
    let whole = bound_ok (whole_object shape.Range the.TargetPortRange d) (λ _. needed the.LowerPort (port_of the.LowerPort) (get (codes "lower-port") d) >>= λ lower. otherwise lower (port_of the.UpperPort) (get (codes "upper-port") d) >>= λ upper. range_between lower upper) range is in
    let lower = bound_ok (needed the.LowerPort (port_of the.LowerPort) (get (codes "lower-port") d)) (λ lower. otherwise lower (port_of the.UpperPort) (get (codes "upper-port") d) >>= λ upper. range_between lower upper) range whole.2 in
    let upper = bound_ok (otherwise lower.0 (port_of the.UpperPort) (get (codes "upper-port") d)) (λ upper. range_between lower.0 upper) range lower.2 in
    let low = needed_port the.LowerPort (get (codes "lower-port") d) lower.0 lower.1 in
    let high = other_port the.UpperPort (get (codes "upper-port") d) lower.0 upper.0 low upper.1 in
    let ordered = ordered_ports lower.0 upper.0 range (nat_le lower.0 upper.0) refl upper.2 in
    subst (λ (r : Ports). range_of (range_data r) ≡ Ok r) ordered.1 (ports_again lower.0 upper.0 low high ordered.0)

-- ---- the alias

abbrev Anything : {A : Type 0} → A → Type 0
Anything x = Unit {0}

all_anything : {A : Type 0} (xs : List A) → AllByRecursion Anything xs
all_anything [] = tt
all_anything (x ∷ xs) = (tt, all_anything xs)

-- a prefix or a name is there
pub target_same : (prefixes : List PrefixValue) (ports : List Ports) (protocols : List ℕ) (names aliases : List (List ℕ)) (asked : Asked)
    → with_target (record { prefixes = prefixes; ports = ports; protocols = protocols; names = names; aliases = aliases }) ≡ Ok asked
    → record { prefixes = prefixes; ports = ports; protocols = protocols; names = names; aliases = aliases } ≡ asked
target_same (p ∷ ps) ports protocols names aliases asked is = ok_same _ asked is
target_same [] ports protocols (n ∷ ns) aliases asked is = ok_same _ asked is
target_same [] ports protocols [] aliases asked is = absurd (cc)

abbrev pub Parts : Alias → Type 0
Parts alias =
    (is_name alias.name ≡ true)
    × (items_in the.TargetPrefix MAX_ITEMS (prefix_of the.TargetPrefix) (printed_items prefix_data alias.asked.prefixes) ≡ Ok alias.asked.prefixes)
    × (items_in the.TargetPortRange MAX_ITEMS range_of (printed_items range_data alias.asked.ports) ≡ Ok alias.asked.ports)
    × (items_in the.TargetProtocol MAX_ITEMS (protocol_of the.TargetProtocol) (printed_items number_data alias.asked.protocols) ≡ Ok alias.asked.protocols)
    × (items_in the.TargetFqdn MAX_NAMES (name_of the.TargetFqdn) (printed_items string alias.asked.names) ≡ Ok alias.asked.names)
    × (with_target (record alias.asked { aliases = [] }) ≡ Ok alias.asked)

-- the members that follow others
abbrev protocols_of : Alias → Members
protocols_of alias = with_items (codes "target-protocol") number_data alias.asked.protocols no_members

abbrev prefixes_of : Alias → Members
prefixes_of alias = with_items (codes "target-prefix") prefix_data alias.asked.prefixes (protocols_of alias)

abbrev ranges_of : Alias → Members
ranges_of alias = with_items (codes "target-port-range") range_data alias.asked.ports (prefixes_of alias)

abbrev names_of : Alias → Members
names_of alias = with_items (codes "target-fqdn") string alias.asked.names (ranges_of alias)

known_members : (alias : Alias) → only (may_have shape.Alias) (names_of alias) ≡ true
known_members alias =
    only_items (may_have shape.Alias) (codes "target-fqdn") string alias.asked.names (ranges_of alias) refl (
    only_items (may_have shape.Alias) (codes "target-port-range") range_data alias.asked.ports (prefixes_of alias) refl (
    only_items (may_have shape.Alias) (codes "target-prefix") prefix_data alias.asked.prefixes (protocols_of alias) refl (
    only_items (may_have shape.Alias) (codes "target-protocol") number_data alias.asked.protocols no_members refl refl)))

past_prefixes : (name : List ℕ) (alias : Alias) → IsOther name (codes "target-prefix") → IsOther name (codes "target-protocol") → get_member name (prefixes_of alias) ≡ None
past_prefixes name alias one two =
    get_past name (codes "target-prefix") prefix_data alias.asked.prefixes (protocols_of alias) one ∙ get_past name (codes "target-protocol") number_data alias.asked.protocols no_members two

found_names : (alias : Alias) → get (codes "target-fqdn") (alias_data alias) ≡ printed_items string alias.asked.names
found_names alias =
    get_here (codes "target-fqdn") string alias.asked.names (ranges_of alias) refl (
    get_past (codes "target-fqdn") (codes "target-port-range") range_data alias.asked.ports (prefixes_of alias) (λ x y. refl) ∙ past_prefixes (codes "target-fqdn") alias (λ x y. refl) (λ x y. refl))

found_ranges : (alias : Alias) → get (codes "target-port-range") (alias_data alias) ≡ printed_items range_data alias.asked.ports
found_ranges alias =
    get_past (codes "target-port-range") (codes "target-fqdn") string alias.asked.names (ranges_of alias) (λ x y. refl)
    ∙ get_here (codes "target-port-range") range_data alias.asked.ports (prefixes_of alias) refl (past_prefixes (codes "target-port-range") alias (λ x y. refl) (λ x y. refl))

found_prefixes : (alias : Alias) → get (codes "target-prefix") (alias_data alias) ≡ printed_items prefix_data alias.asked.prefixes
found_prefixes alias =
    get_past (codes "target-prefix") (codes "target-fqdn") string alias.asked.names (ranges_of alias) (λ x y. refl)
    ∙ get_past (codes "target-prefix") (codes "target-port-range") range_data alias.asked.ports (prefixes_of alias) (λ x y. refl)
    ∙ get_here (codes "target-prefix") prefix_data alias.asked.prefixes (protocols_of alias) refl (get_past (codes "target-prefix") (codes "target-protocol") number_data alias.asked.protocols no_members (λ x y. refl))

found_protocols : (alias : Alias) → get (codes "target-protocol") (alias_data alias) ≡ printed_items number_data alias.asked.protocols
found_protocols alias =
    get_past (codes "target-protocol") (codes "target-fqdn") string alias.asked.names (ranges_of alias) (λ x y. refl)
    ∙ get_past (codes "target-protocol") (codes "target-port-range") range_data alias.asked.ports (prefixes_of alias) (λ x y. refl)
    ∙ get_past (codes "target-protocol") (codes "target-prefix") prefix_data alias.asked.prefixes (protocols_of alias) (λ x y. refl)
    ∙ get_here (codes "target-protocol") number_data alias.asked.protocols no_members refl refl

parts_again : (alias : Alias) → Parts alias → alias_in (alias_data alias) ≡ Ok alias
parts_again alias parts =
    rw (known_members alias, name_again the.Name alias.name parts.0, found_prefixes alias, parts.1, found_ranges alias, parts.2, found_protocols alias, parts.3, found_names alias, parts.4, parts.5) refl

pub needed_name : (o : Option Data) (name : List ℕ) → needed the.Name (name_of the.Name) o ≡ Ok name → is_name name ≡ true
needed_name None name is = absurd (cc)
needed_name (Some d) name is = name_bound the.Name d name is

-- what is read behind the members before
abbrev pub behind_names : List PrefixValue → List Ports → List ℕ → List (List ℕ) → Result Asked ListFault
behind_names prefixes ports protocols names = with_target (record { prefixes = prefixes; ports = ports; protocols = protocols; names = names; aliases = [] })

abbrev pub behind_protocols : Data → List PrefixValue → List Ports → List ℕ → Result Asked ListFault
behind_protocols d prefixes ports protocols = items_in the.TargetFqdn MAX_NAMES (name_of the.TargetFqdn) (get (codes "target-fqdn") d) >>= behind_names prefixes ports protocols

abbrev pub behind_ports : Data → List PrefixValue → List Ports → Result Asked ListFault
behind_ports d prefixes ports = items_in the.TargetProtocol MAX_ITEMS (protocol_of the.TargetProtocol) (get (codes "target-protocol") d) >>= behind_protocols d prefixes ports

abbrev pub behind_prefixes : Data → List PrefixValue → Result Asked ListFault
behind_prefixes d prefixes = items_in the.TargetPortRange MAX_ITEMS range_of (get (codes "target-port-range") d) >>= behind_ports d prefixes

abbrev pub behind_targets : List ℕ → Asked → Result Alias ListFault
behind_targets name asked = Ok (record { name = name; asked = asked })

abbrev pub behind_name : Data → List ℕ → Result Alias ListFault
behind_name d name = targets_of d >>= behind_targets name

abbrev pub behind_whole : Data → Unit {0} → Result Alias ListFault
behind_whole d done = needed the.Name (name_of the.Name) (get (codes "name") d) >>= behind_name d

-- **an alias that was read is what its printed form is read as**; its prefixes are prefixes, as those of every value are
pub alias_again : (d : Data) (alias : Alias) → AllByRecursion IsPrefix alias.asked.prefixes → alias_in d ≡ Ok alias → alias_in (alias_data alias) ≡ Ok alias
alias_again d alias valid is =
    let whole = bound_ok (whole_object shape.Alias the.Alias d) (behind_whole d) alias is in
    let name = bound_ok (needed the.Name (name_of the.Name) (get (codes "name") d)) (behind_name d) alias whole.2 in
    let asked = bound_ok (targets_of d) (behind_targets name.0) alias name.2 in
    let prefixes = bound_ok (items_in the.TargetPrefix MAX_ITEMS (prefix_of the.TargetPrefix) (get (codes "target-prefix") d)) (behind_prefixes d) asked.0 asked.1 in
    let ports = bound_ok (items_in the.TargetPortRange MAX_ITEMS range_of (get (codes "target-port-range") d)) (behind_ports d prefixes.0) asked.0 prefixes.2 in
    let protocols = bound_ok (items_in the.TargetProtocol MAX_ITEMS (protocol_of the.TargetProtocol) (get (codes "target-protocol") d)) (behind_protocols d prefixes.0 ports.0) asked.0 ports.2 in
    let names = bound_ok (items_in the.TargetFqdn MAX_NAMES (name_of the.TargetFqdn) (get (codes "target-fqdn") d)) (behind_names prefixes.0 ports.0 protocols.0) asked.0 protocols.2 in
    let rebuilt : Asked = record { prefixes = prefixes.0; ports = ports.0; protocols = protocols.0; names = names.0; aliases = [] } in
    let targets = target_same prefixes.0 ports.0 protocols.0 names.0 [] asked.0 names.2 in
    let same_asked = ok_same (record { name = name.0; asked = asked.0 }) alias asked.2 in
    let same : record { name = name.0; asked = rebuilt } ≡ alias = ap (λ (a : Asked). record { name = name.0; asked = a }) targets ∙ same_asked in
    let all = subst (λ (a : Alias). AllByRecursion IsPrefix a.asked.prefixes) (sym same) valid in
    let parts : Parts (record { name = name.0; asked = rebuilt }) = (
      needed_name (get (codes "name") d) name.0 name.1,
      items_again IsPrefix the.TargetPrefix MAX_ITEMS (prefix_of the.TargetPrefix) prefix_data (λ e x good read. prefix_again the.TargetPrefix x good) (get (codes "target-prefix") d) prefixes.0 all prefixes.1,
      items_again Anything the.TargetPortRange MAX_ITEMS range_of range_data (λ e x good read. range_again e x read) (get (codes "target-port-range") d) ports.0 (all_anything ports.0) ports.1,
      items_again Anything the.TargetProtocol MAX_ITEMS (protocol_of the.TargetProtocol) number_data (λ e x good read. number_again 256 the.TargetProtocol x (number_bound 256 the.TargetProtocol e x read)) (get (codes "target-protocol") d) protocols.0 (all_anything protocols.0) protocols.1,
      items_again Anything the.TargetFqdn MAX_NAMES (name_of the.TargetFqdn) string (λ e x good read. name_again the.TargetFqdn x (name_bound the.TargetFqdn e x read)) (get (codes "target-fqdn") d) names.0 (all_anything names.0) names.1,
      names.2 ∙ ap Ok (sym targets),
    ) in
    subst (λ (a : Alias). alias_in (alias_data a) ≡ Ok a) same (parts_again (record { name = name.0; asked = rebuilt }) parts)
