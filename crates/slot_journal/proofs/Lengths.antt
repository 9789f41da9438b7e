-- How long the fields of an entry are at most, in the first format.
use Rattle.std.proofs.Common.{◌≡◌, ℕ, suc, ◌+◌, ◌*◌, ◌≤◌, true, ◌&&◌, nat_le, Option, Some, None, List, [], ◌∷◌, ◌++◌, length, arith}
use Rattle.std.specs.List.{AllByRecursion, flat_map, list_all}
use Rattle.std.specs.Int.{w32, w64, to_be_bytes, cast_unsigned}
use Rattle.std.proofs.lemmas.Bool.{and_parts}
use Rattle.std.proofs.lemmas.List.{length-append}
use native.Mathlib.Numerals.{unary_clauses}
use Rattle.slot_store.specs.declared.format.Format.TheVariants.{One}
use Rattle.ip_scope.specs.Prefix.{PrefixValue}
use Rattle.ip_scope.specs.Ports.{Ports}
use Rattle.acl_lists.specs.declared.ace.Ace.{Ace}
use Rattle.acl_lists.specs.declared.acl.Acl.{Acl}
use Rattle.acl_lists.specs.declared.alias.Alias.{Alias}
use Rattle.acl_lists.specs.declared.asked.Asked.{Asked}
use Rattle.acl_lists.specs.declared.port_test.PortTest.{PortTest}
use Rattle.acl_lists.specs.declared.port_test.PortTest.TheVariants as port
use Rattle.dots_history.specs.Bounds.{target_within, prefix_count, asked_within, put_within, change_within}
use Rattle.dots_history.specs.declared.change.Change.{Change}
use Rattle.dots_history.specs.declared.change.Change.TheVariants as change
use Rattle.dots_history.specs.declared.put.Put.{Put}
use Rattle.dots_history.specs.declared.put.Target.{Target}
use Rattle.slot_journal.specs.Values.{IsName, IsAsked, IsAlias, IsAce, IsAcl, IsPut, IsChange}
use Rattle.slot_journal.specs.Layout.{byte, counted, listed, optional, flag_number, prefix_bytes, ports_bytes, asked_bytes, alias_bytes, test_bytes, ace_bytes, acl_bytes, target_bytes, put_bytes, values_bytes, change_fields}
use Rattle.slot_journal.proofs.Parts.{name_visible}
use Rattle.slot_journal.proofs.Within.{at_most}
use Rattle.slot_journal.proofs.Writings.{asked_sizes, target_sizes}

-- of two lists behind one another
pub joined_most : (a b : List ℕ) (k m : ℕ) → length a ≤ k → length b ≤ m → length (a ++ b) ≤ k + m
joined_most a b k m first next = omega (arith, length-append a b, first, next)

mul_suc : (k n : ℕ) → k * suc n ≡ k * n + k
mul_suc k n = simp unary_clauses (omega arith)

flat_most : {A : Type 0} (P : A → Type 0) (item : A → List ℕ) (k : ℕ) → ((a : A) → P a → length (item a) ≤ k) → (xs : List A) → AllByRecursion P xs → length (flat_map item xs) ≤ k * length xs
flat_most P item k each [] all = omega arith
flat_most P item k each (x ∷ xs) all =
    omega (arith, length-append (item x) (flat_map item xs), each x all.0, flat_most P item k each xs all.1, mul_suc k (length xs))

all_true : {A : Type 0} (xs : List A) → AllByRecursion (λ _. Unit {0}) xs
all_true [] = tt
all_true (x ∷ xs) = (tt, all_true xs)

-- of items that have all this length at most
same_most : {A : Type 0} (item : A → List ℕ) (k : ℕ) → ((a : A) → length (item a) ≤ k) → (xs : List A) → length (listed item xs) ≤ 1 + k * length xs
same_most item k each xs = omega (arith, flat_most (λ _. Unit {0}) item k (λ a is. each a) xs (all_true xs))

name_most : (name : List ℕ) → IsName name → length (counted name) ≤ 65
name_most name is = omega (arith, (name_visible name is).high)

names_most : (names : List (List ℕ)) → AllByRecursion IsName names → length names ≤ 8 → length (listed counted names) ≤ 521
names_most names are few = omega (arith, flat_most IsName counted 65 name_most names are, few)

prefixes_most : (prefixes : List PrefixValue) → length (listed prefix_bytes prefixes) ≤ 1 + 18 * length prefixes
prefixes_most prefixes = same_most prefix_bytes 18 (λ p. omega arith) prefixes

ranges_most : (ranges : List Ports) → length (listed ports_bytes ranges) ≤ 1 + 4 * length ranges
ranges_most ranges = same_most ports_bytes 4 (λ p. omega arith) ranges

asked_most : (asked : Asked) → IsAsked asked → asked_within asked ≡ true → length (asked_bytes asked) ≤ 1781
unfolding asked_bytes
asked_most asked is within =
    let sizes = asked_sizes asked within in
    let names = listed counted asked.names ++ listed counted asked.aliases in
    let protocols = counted asked.protocols ++ names in
    let ports = listed ports_bytes asked.ports ++ protocols in
    let names_are : length names ≤ 1042 = joined_most (listed counted asked.names) (listed counted asked.aliases) 521 521 (names_most asked.names is.names sizes.1.1.1.0) (names_most asked.aliases is.aliases sizes.1.1.1.1) in
    let protocols_are : length protocols ≤ 1075 = joined_most (counted asked.protocols) names 33 1042 (omega (arith, sizes.1.1.0)) names_are in
    let ports_are : length ports ≤ 1204 = joined_most (listed ports_bytes asked.ports) protocols 129 1075 (omega (arith, ranges_most asked.ports, sizes.1.0)) protocols_are in
    joined_most (listed prefix_bytes asked.prefixes) ports 577 1204 (omega (arith, prefixes_most asked.prefixes, sizes.0)) ports_are

alias_most : (alias : Alias) → IsAlias alias → asked_within alias.asked ≡ true → length (alias_bytes alias) ≤ 1846
unfolding alias_bytes
alias_most alias is within = joined_most (counted alias.name) (asked_bytes alias.asked) 65 1781 (name_most alias.name is.name) (asked_most alias.asked is.asked within)

-- ---- access lists

optional_most : {A : Type 0} (value : A → List ℕ) (k : ℕ) → ((a : A) → length (value a) ≤ k) → (o : Option A) → length (optional value o) ≤ 1 + k
optional_most value k each None = omega arith
optional_most value k each (Some x) = omega (arith, each x)

test_most : (test : PortTest) → length (test_bytes test) ≤ 5
test_most port.Any = omega arith
test_most (port.Eq p) = omega arith
test_most (port.Neq p) = omega arith
test_most (port.Lte p) = omega arith
test_most (port.Gte p) = omega arith
test_most (port.Range ports) = omega arith

ace_most : (ace : Ace) → IsAce ace → length (ace_bytes ace) ≤ 116
unfolding ace_bytes
ace_most ace is =
    let last = test_bytes ace.destination_port ++ byte (flag_number ace.accept) in
    let tests = test_bytes ace.source_port ++ last in
    let protocol = optional byte ace.protocol ++ tests in
    let destination = optional prefix_bytes ace.destination ++ protocol in
    let source = optional prefix_bytes ace.source ++ destination in
    let last_is : length last ≤ 6 = joined_most (test_bytes ace.destination_port) (byte (flag_number ace.accept)) 5 1 (test_most ace.destination_port) (omega arith) in
    let tests_are : length tests ≤ 11 = joined_most (test_bytes ace.source_port) last 5 6 (test_most ace.source_port) last_is in
    let protocol_is : length protocol ≤ 13 = joined_most (optional byte ace.protocol) tests 2 11 (optional_most byte 1 (λ b. omega arith) ace.protocol) tests_are in
    let destination_is : length destination ≤ 32 = joined_most (optional prefix_bytes ace.destination) protocol 19 13 (optional_most prefix_bytes 18 (λ p. omega arith) ace.destination) protocol_is in
    let source_is : length source ≤ 51 = joined_most (optional prefix_bytes ace.source) destination 19 32 (optional_most prefix_bytes 18 (λ p. omega arith) ace.source) destination_is in
    joined_most (counted ace.name) source 65 51 (name_most ace.name is.name) source_is

acl_most : (acl : Acl) → IsAcl acl → length acl.aces ≤ 64 → length (acl_bytes acl) ≤ 7492
unfolding acl_bytes
acl_most acl is few =
    joined_most (counted acl.name) _ 65 7427 (name_most acl.name is.name) (omega (arith, flat_most IsAce ace_bytes 116 ace_most acl.aces is.aces, few))

-- ---- mitigations

target_most : (target : Target) → target_within target ≡ true → length (target_bytes target) ≤ 163 + 18 * length target.prefixes
unfolding target_bytes
target_most target within =
    let sizes = target_sizes target within in
    let ports = listed ports_bytes target.ports ++ counted target.protocols in
    let ports_are : length ports ≤ 162 = joined_most (listed ports_bytes target.ports) (counted target.protocols) 129 33 (omega (arith, ranges_most target.ports, sizes.0)) (omega (arith, sizes.1)) in
    omega (arith, length-append (listed prefix_bytes target.prefixes) ports, prefixes_most target.prefixes, ports_are)

targets_most : (targets : List Target) → list_all target_within targets ≡ true → length (flat_map target_bytes targets) ≤ 163 * length targets + 18 * prefix_count targets
targets_most [] within = omega arith
targets_most (target ∷ targets) within =
    let parts = and_parts (target_within target) (list_all target_within targets) within in
    omega (arith, length-append (target_bytes target) (flat_map target_bytes targets), target_most target parts.0, targets_most targets parts.1, mul_suc 163 (length targets))

put_most : (put : Put) → IsPut put → put_within put ≡ true → length (put_bytes One put) ≤ 5569
unfolding put_bytes
put_most put is within =
    let few = and_parts (asked_within put.asked && nat_le (length put.targets) 9 && list_all target_within put.targets) (nat_le (prefix_count put.targets) 128) within in
    let all = and_parts (asked_within put.asked && nat_le (length put.targets) 9) (list_all target_within put.targets) few.0 in
    let first = and_parts (asked_within put.asked) (nat_le (length put.targets) 9) all.0 in
    let last = to_be_bytes w32 (cast_unsigned w32 put.granted) ++ (to_be_bytes w64 put.start ++ []) in
    let targets = listed target_bytes put.targets ++ last in
    let targets_are : length targets ≤ 3784 = joined_most (listed target_bytes put.targets) last 3772 12 (omega (arith, targets_most put.targets all.1, at_most _ _ first.1, at_most _ _ few.1)) (omega arith) in
    omega (arith, joined_most (asked_bytes put.asked) targets 1781 3784 (asked_most put.asked is.asked first.0) targets_are)

-- ---- changes

pub fields_most : (c : Change) → IsChange c → change_within c ≡ true → length (change_fields One c) ≤ 7492
unfolding change_fields values_bytes
fields_most (change.Put put) is within = omega (arith, put_most put is within)
fields_most (change.Withdraw mid) is within = omega arith
fields_most (change.SetAlias alias) is within = omega (arith, alias_most alias is (and_parts (asked_within alias.asked) _ within).0)
fields_most (change.DropAlias name) is within = omega (arith, name_most name is)
fields_most (change.SetAcl acl) is within = acl_most acl is (at_most _ _ within)
fields_most (change.DropAcl name) is within = omega (arith, name_most name is)
fields_most change.Register is within = omega arith
fields_most change.Deregister is within = omega arith
fields_most (change.SetConfig sid config) is within = omega arith
fields_most change.ClearConfig is within = omega arith
fields_most change.Lost is within = omega arith
fields_most change.Back is within = omega arith
