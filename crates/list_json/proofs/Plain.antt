-- What is printed has no fractions.
use Rattle.std.proofs.Common.{◌≡◌, ℕ, List, [], ◌∷◌, map, Option, Some, None, false, refl}
use Rattle.acl_lists.specs.declared.ace.Ace.{Ace}
use Rattle.acl_lists.specs.declared.acl.Acl.{Acl}
use Rattle.acl_lists.specs.declared.alias.Alias.{Alias}
use Rattle.acl_lists.specs.declared.port_test.PortTest.{PortTest}
use Rattle.acl_lists.specs.declared.port_test.PortTest.TheVariants as port
use Rattle.ip_scope.specs.declared.family.Family.{Family}
use Rattle.serde_json.specs.Data.{Data, string, Members, no_members, member}
use Rattle.serde_json.specs.View.{items_of}
use Rattle.serde_json.specs.Written.{has_float, items_have_float, members_have_float}
use Rattle.list_json.specs.AliasPrinting.{number_data, prefix_data, range_data, with_items, alias_data}
use Rattle.list_json.specs.ListPrinting.{with_value, with_object, option_data, test_data, untested, entry_header, entry_transport, matches_members, entry_data, acl_data}

pub items_plain : {A : Type 0} (write : A → Data) (xs : List A) → ((x : A) → has_float (write x) ≡ false) → items_have_float (items_of (map write xs)) ≡ false
items_plain write [] plain = refl
items_plain write (x ∷ xs) plain = rw (plain x) (items_plain write xs plain)

with_items_plain : {A : Type 0} (name : List ℕ) (write : A → Data) (xs : List A) (rest : Members) → ((x : A) → has_float (write x) ≡ false) → members_have_float rest ≡ false → members_have_float (with_items name write xs rest) ≡ false
with_items_plain name write [] rest plain later = later
with_items_plain name write (x ∷ xs) rest plain later = rw (plain x, items_plain write xs plain) later

pub alias_plain : (alias : Alias) → has_float (alias_data alias) ≡ false
alias_plain alias =
    with_items_plain _ string alias.asked.names _ (λ x. refl) (
    with_items_plain _ range_data alias.asked.ports _ (λ x. refl) (
    with_items_plain _ prefix_data alias.asked.prefixes _ (λ x. refl) (
    with_items_plain _ number_data alias.asked.protocols no_members (λ x. refl) refl)))

-- a value that is there has no fractions
abbrev pub IsPlain : Option Data → Type 0
IsPlain None = Unit {0}
IsPlain (Some d) = has_float d ≡ false

with_value_plain : (name : List ℕ) (value : Option Data) (rest : Members) → IsPlain value → members_have_float rest ≡ false → members_have_float (with_value name value rest) ≡ false
with_value_plain name None rest plain later = later
with_value_plain name (Some d) rest plain later = rw plain later

with_object_plain : (name : List ℕ) (inner rest : Members) → members_have_float inner ≡ false → members_have_float rest ≡ false → members_have_float (with_object name inner rest) ≡ false
with_object_plain name no_members rest plain later = later
with_object_plain name (member first d inner) rest plain later = rw plain later

option_plain : {A : Type 0} (write : A → Data) (value : Option A) → ((x : A) → has_float (write x) ≡ false) → IsPlain (option_data write value)
option_plain write None plain = tt
option_plain write (Some x) plain = plain x

test_plain : (test : PortTest) → IsPlain (test_data test)
test_plain port.Any = tt
test_plain (port.Eq number) = refl
test_plain (port.Neq number) = refl
test_plain (port.Lte number) = refl
test_plain (port.Gte number) = refl
test_plain (port.Range range) = refl

transport_plain : (entry : Ace) → members_have_float (entry_transport entry) ≡ false
transport_plain entry =
    with_value_plain _ (test_data entry.destination_port) _ (test_plain entry.destination_port) (with_value_plain _ (test_data entry.source_port) no_members (test_plain entry.source_port) refl)

header_plain : (family : Family) (entry : Ace) → members_have_float (entry_header family entry) ≡ false
header_plain family entry =
    with_value_plain _ (option_data prefix_data entry.destination) _ (option_plain prefix_data entry.destination (λ x. refl)) (
    with_value_plain _ (option_data number_data (untested (test_data entry.source_port) (test_data entry.destination_port) entry.protocol)) _ (option_plain number_data (untested (test_data entry.source_port) (test_data entry.destination_port) entry.protocol) (λ x. refl)) (
    with_value_plain _ (option_data prefix_data entry.source) no_members (option_plain prefix_data entry.source (λ x. refl)) refl))

matches_plain : (family : Family) (entry : Ace) → members_have_float (matches_members family entry) ≡ false
matches_plain family entry =
    with_object_plain _ (entry_header family entry) _ (header_plain family entry) (with_object_plain _ (entry_transport entry) no_members (transport_plain entry) refl)

pub entry_plain : (family : Family) (entry : Ace) → has_float (entry_data family entry) ≡ false
entry_plain family entry = with_object_plain _ (matches_members family entry) _ (matches_plain family entry) refl

pub acl_plain : (acl : Acl) → has_float (acl_data acl) ≡ false
acl_plain acl = rw (items_plain (entry_data acl.family) acl.aces (entry_plain acl.family)) refl
