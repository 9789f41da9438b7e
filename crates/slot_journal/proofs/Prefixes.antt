-- Readers of prefixes, ports and port tests.
use Rattle.std.proofs.Common.{◌≡◌, ℕ, zero, suc, ◌+◌, ◌-◌, ◌*◌, ◌/◌, ◌%◌, ◌^◌, ◌<◌, ◌≤◌, inl, inr, Bool, true, false, ◌==◌, List, [], ◌∷◌, ◌++◌, length, Ok, refl, sym, ap, subst, ◌∙◌, arith}
use Rattle.std.specs.Prelude.{if◌then◌else◌}
use Rattle.std.specs.Int.{w16, w128, to_be_bytes, bytes_high_first}
use Rattle.std.proofs.lemmas.Bool.{cases_lt, eq-eqb}
use Rattle.std.proofs.lemmas.Bool.Decides.{nat_tests}
use Rattle.std.proofs.lemmas.Nat.{pow-add, pow_pos, be_bytes_2}
use Rattle.std.proofs.Math.Nat.{mul-le-mul_right}
use Rattle.ip_scope.specs.declared.family.Family.{Family}
use Rattle.ip_scope.specs.declared.family.Family.TheVariants.{V4, V6}
use Rattle.ip_scope.specs.Family.{width}
use Rattle.ip_scope.specs.Prefix.{IsPrefix}
use Rattle.ip_scope.specs.Ports.{Ports}
use Rattle.acl_lists.specs.declared.port_test.PortTest.{PortTest}
use Rattle.acl_lists.specs.declared.port_test.PortTest.TheVariants as port
use Rattle.slot_journal.specs.Values.{IsRange, IsTest}
use Rattle.slot_journal.specs.Layout.{byte, version, prefix_bytes, ports_bytes, test_number, test_value, test_bytes}
use Rattle.slot_journal.specs.RecordReading.{Read, pair_at, both_at, made_at, second, nothing_at, number_at, within_at, version_at, zeros, address_at, lowest_at, prefix_from, prefix_at, least_low, upper_at, ports_from, ports_at, value_at, test_at}
use Rattle.slot_journal.proofs.Digits.{IsAddress, address_reader, high_byte, small_mod}
use Rattle.slot_journal.proofs.Readers.{IsReader, made_reader, pair_reader}
use Rattle.slot_journal.proofs.Fields.{IsWithin, within_reader, is_between, between_most, between_least, both_reader, two_reader, byte_at_place}
use Rattle.slot_journal.proofs.Parts.{version_reader}

-- ---- a value of some variant

pub constant_reader : {A : Type 0} (valid : A → Type 0) (layout : A → List ℕ) (a : A) → valid a → layout a ≡ [] → ((x : A) → valid x → a ≡ x) → IsReader valid layout (nothing_at a)
constant_reader valid layout a holds empty only = record {
  whole = λ end x rest is. let same = only x is in ap (λ y. Ok (y, layout x ++ rest)) same ∙ ap (λ (l : List ℕ). Ok (x, l ++ rest)) (ap layout (sym same) ∙ empty);
  sound = λ end bytes fits. (holds, ap (λ (l : List ℕ). l ++ bytes) (sym empty));
}

pub variant_reader : {A T : Type 0} (vA : A → Type 0) (lA : A → List ℕ) (rA : ℕ → List ℕ → Read A) (valid : T → Type 0) (number : T → ℕ) (layout : T → List ℕ) (n : ℕ) (make : A → T)
    → ((a : A) → vA a → valid (make a)) → ((a : A) → valid (make a) → vA a) → ((a : A) → number (make a) ≡ n) → ((a : A) → layout (make a) ≡ lA a)
    → ((t : T) → number t ≡ n → (a : A) × (make a ≡ t)) → IsReader vA lA rA → IsReader (λ t. valid t × (number t ≡ n)) layout (made_at make rA)
variant_reader vA lA rA valid number layout n make to from numbered laid back reader =
    made_reader vA lA rA (λ t. valid t × (number t ≡ n)) layout make
    (λ a holds. ((to a holds, numbered a), laid a))
    (λ t holds. let of = back t holds.1 in (of.0, from of.0 (subst valid (sym of.1) holds.0), of.1))
    reader

-- ---- prefixes

wider : (z k : ℕ) → 2 ^ (8 * k) ≤ 2 ^ (8 * (z + k))
wider z k =
    let e : 8 * (z + k) ≡ 8 * z + 8 * k = omega arith in
    let all : 2 ^ (8 * z + 8 * k) ≡ 2 ^ (8 * z) * 2 ^ (8 * k) = pow-add 2 (8 * z) (8 * k) in
    let some : 0 < 2 ^ (8 * z) = pow_pos (8 * z) in
    let few : 1 * 2 ^ (8 * k) ≤ 2 ^ (8 * z) * 2 ^ (8 * k) = mul-le-mul_right (2 ^ (8 * k)) (omega (arith, some)) in
    rw (e, all) (omega (arith, few))

zero_byte : (k m : ℕ) → m < 2 ^ (8 * k) → bytes_high_first (suc k) m ≡ 0 ∷ bytes_high_first k m
zero_byte k m low = let same : 0 * 2 ^ (8 * k) + m ≡ m = omega arith in ap (bytes_high_first (suc k)) (sym same) ∙ high_byte k 0 m (omega arith) low

leading_zeros : (z k m : ℕ) → m < 2 ^ (8 * k) → bytes_high_first (z + k) m ≡ bytes_high_first z 0 ++ bytes_high_first k m
leading_zeros zero k m low = let e : 0 + k ≡ k = omega arith in ap (λ (c : ℕ). bytes_high_first c m) e
leading_zeros (suc z) k m low =
    let e : suc z + k ≡ suc (z + k) = omega arith in
    ap (λ (c : ℕ). bytes_high_first c m) e
    ∙ zero_byte (z + k) m (omega (arith, low, wider z k))
    ∙ ap (λ (l : List ℕ). 0 ∷ l) (leading_zeros z k m low)
    ∙ ap (λ (l : List ℕ). l ++ bytes_high_first k m) (sym (zero_byte z 0 (pow_pos (8 * z))))

is_nought : (z n : ℕ) → IsAddress z 0 n → n ≡ 0
is_nought z n is =
    let e : 8 * z - 0 ≡ 8 * z = omega arith in
    sym (small_mod n (2 ^ (8 * z)) is.fits) ∙ subst (λ (h : ℕ). n % 2 ^ h ≡ 0) e is.zeros

nought : (z : ℕ) → IsAddress z 0 0
nought z = record { fits = pow_pos (8 * z); zeros = small_mod 0 (2 ^ (8 * z - 0)) (pow_pos (8 * z - 0)) }

low_is : (z k length : ℕ) → z + k ≡ 16 → (p : ℕ × ℕ) → IsAddress z 0 p.0 × IsAddress k length p.1 → bytes_high_first 16 p.1 ≡ bytes_high_first z p.0 ++ bytes_high_first k p.1
low_is z k length whole p holds =
    subst (λ (c : ℕ). bytes_high_first c p.1 ≡ bytes_high_first z 0 ++ bytes_high_first k p.1) whole (leading_zeros z k p.1 holds.1.fits)
    ∙ ap (λ (n : ℕ). bytes_high_first z n ++ bytes_high_first k p.1) (sym (is_nought z p.0 holds.0))

low_reader : (z k length : ℕ) → z + k ≡ 16 → IsReader (IsAddress k length) (bytes_high_first 16) (made_at second (both_at (address_at z 0) (address_at k length)))
low_reader z k length whole =
    made_reader (λ p. IsAddress z 0 p.0 × IsAddress k length p.1) (λ p. bytes_high_first z p.0 ++ bytes_high_first k p.1) (both_at (address_at z 0) (address_at k length))
    (IsAddress k length) (bytes_high_first 16) second
    (λ p holds. (holds.1, low_is z k length whole p holds))
    (λ n is. ((0, n), (nought z, is), refl))
    (both_reader (IsAddress z 0) (bytes_high_first z) (address_at z 0) (IsAddress k length) (bytes_high_first k) (address_at k length) (address_reader z 0) (address_reader k length))

lowest_reader : (family : Family) (length : ℕ) → IsReader (IsAddress (16 - zeros family) length) (to_be_bytes w128) (lowest_at family length)
unfolding lowest_at
lowest_reader V4 length = low_reader 12 4 length refl
lowest_reader V6 length = low_reader 0 16 length refl

abbrev ArePrefixParts : Family → ℕ × ℕ → Type 0
ArePrefixParts family p = IsWithin 0 (width family) p.0 × IsAddress (16 - zeros family) p.0 p.1

parts_prefix : (family : Family) (length number : ℕ) → ArePrefixParts family (length, number) → IsPrefix (record { family = family; number = number; length = length })
parts_prefix V4 length number holds = record { length = between_most 0 32 length holds.0.0; number = holds.1.fits; host_bits = holds.1.zeros }
parts_prefix V6 length number holds = record { length = between_most 0 128 length holds.0.0; number = holds.1.fits; host_bits = holds.1.zeros }

prefix_parts : (family : Family) (length number : ℕ) → IsPrefix (record { family = family; number = number; length = length }) → ArePrefixParts family (length, number)
prefix_parts V4 length number is = ((is_between 0 32 length (omega arith) is.length, omega (arith, is.length)), record { fits = is.number; zeros = is.host_bits })
prefix_parts V6 length number is = ((is_between 0 128 length (omega arith) is.length, omega (arith, is.length)), record { fits = is.number; zeros = is.host_bits })

narrow : (family : Family) → width family < 256
narrow V4 = omega arith
narrow V6 = omega arith

parts_reader : (family : Family) → IsReader (ArePrefixParts family) (λ p. byte p.0 ++ to_be_bytes w128 p.1) (pair_at (within_at 0 (width family)) (lowest_at family))
parts_reader family =
    pair_reader (IsWithin 0 (width family)) byte (within_at 0 (width family)) (IsAddress (16 - zeros family)) (λ _. to_be_bytes w128) (lowest_at family)
    (within_reader 0 (width family) (omega arith) (narrow family)) (λ length holds. lowest_reader family length)

pub prefix_reader : IsReader IsPrefix prefix_bytes prefix_at
unfolding prefix_at
prefix_reader =
    made_reader (λ p. Unit {0} × ArePrefixParts p.0 p.1) (λ p. byte (version p.0) ++ (byte p.1.0 ++ to_be_bytes w128 p.1.1)) (pair_at version_at (λ family. pair_at (within_at 0 (width family)) (lowest_at family)))
    IsPrefix prefix_bytes prefix_from
    (λ p holds. (parts_prefix p.0 p.1.0 p.1.1 holds.1, refl))
    (λ p is. ((p.family, (p.length, p.number)), (tt, prefix_parts p.family p.length p.number is), refl))
    (pair_reader (λ _. Unit {0}) (λ family. byte (version family)) version_at ArePrefixParts (λ _ p. byte p.0 ++ to_be_bytes w128 p.1) (λ family. pair_at (within_at 0 (width family)) (lowest_at family))
    version_reader (λ family holds. parts_reader family))

-- ---- ports

least_is : (lower high low : ℕ) → lower / 256 ≤ high → least_low lower high ≤ low → lower ≤ high * 256 + low
least_is lower high low more least =
    elim (cases_lt (lower / 256) high) as (λ _. lower ≤ high * 256 + low) [
      | inl above ↦ omega (arith, above)
      | inr same ↦
          let is : high ≡ lower / 256 = omega (arith, same, more) in
          let test : (high == lower / 256) ≡ true = eq-eqb _ _ is in
          let of : lower % 256 ≤ low = subst (λ (v : Bool). (if v then lower % 256 else 0) ≤ low) test least in
          omega (arith, of, is)
    ]

is_least : (lower high low : ℕ) (v : Bool) → (high == lower / 256) ≡ v → low < 256 → lower ≤ high * 256 + low → (if v then lower % 256 else 0) ≤ low
is_least lower high low false is small order = omega arith
is_least lower high low true is small order = let same : high ≡ lower / 256 = grind (arith, nat_tests) in omega (arith, same, order, small)

abbrev IsFrom : ℕ → ℕ → Type 0
IsFrom lower x = (lower ≤ x) × (x < 2 ^ 16)

abbrev joined_byte : ℕ × ℕ → ℕ
joined_byte p = p.0 * 256 + p.1

upper_to : (lower : ℕ) (p : ℕ × ℕ) → IsWithin (lower / 256) 255 p.0 × IsWithin (least_low lower p.0) 255 p.1 → IsFrom lower (joined_byte p) × (to_be_bytes w16 (joined_byte p) ≡ byte p.0 ++ byte p.1)
upper_to lower p holds =
    let low = between_least (least_low lower p.0) 255 p.1 holds.1.0 in
    let high = between_least (lower / 256) 255 p.0 holds.0.0 in
    let xs : List ℕ = p.0 ∷ (p.1 ∷ []) in (
      (least_is lower p.0 p.1 high low, omega (arith, holds.0.1, holds.1.1)),
      be_bytes_2 xs (joined_byte p) refl (λ i. byte_at_place xs i (holds.0.1, (holds.1.1, tt))) (omega arith),
    )

upper_from : (lower x : ℕ) → IsFrom lower x → (p : ℕ × ℕ) × (IsWithin (lower / 256) 255 p.0 × IsWithin (least_low lower p.0) 255 p.1) × (joined_byte p ≡ x)
upper_from lower x is =
    let h = x / 256 in
    let l = x % 256 in
    let most : h ≤ 255 = omega (arith, is.1) in
    let small : l < 256 = omega arith in
    let whole : h * 256 + l ≡ x = omega arith in
    let least = is_least lower h l (h == lower / 256) refl small (omega (arith, is.0, whole)) in
    ((h, l), ((is_between (lower / 256) 255 h (omega (arith, is.0)) most, omega (arith, most)), (is_between (least_low lower h) 255 l least (omega (arith, small)), omega (arith, small))), whole)

least_small : (lower high : ℕ) (v : Bool) → (if v then lower % 256 else 0) ≤ 255
least_small lower high false = omega arith
least_small lower high true = omega arith

upper_reader : (lower : ℕ) → lower < 2 ^ 16 → IsReader (IsFrom lower) (to_be_bytes w16) (upper_at lower)
unfolding upper_at
upper_reader lower small =
    made_reader (λ p. IsWithin (lower / 256) 255 p.0 × IsWithin (least_low lower p.0) 255 p.1) (λ p. byte p.0 ++ byte p.1) (pair_at (within_at (lower / 256) 255) (λ high. within_at (least_low lower high) 255))
    (IsFrom lower) (to_be_bytes w16) joined_byte
    (upper_to lower) (upper_from lower)
    (pair_reader (IsWithin (lower / 256) 255) byte (within_at (lower / 256) 255) (λ high. IsWithin (least_low lower high) 255) (λ _. byte) (λ high. within_at (least_low lower high) 255)
    (within_reader (lower / 256) 255 (omega (arith, small)) (omega arith))
    (λ high holds. within_reader (least_low lower high) 255 (least_small lower high (high == lower / 256)) (omega arith)))

pub ports_reader : IsReader IsRange ports_bytes ports_at
unfolding ports_at
ports_reader =
    made_reader (λ p. (p.0 < 2 ^ 16) × IsFrom p.0 p.1) (λ p. to_be_bytes w16 p.0 ++ to_be_bytes w16 p.1) (pair_at (number_at w16) upper_at)
    IsRange ports_bytes ports_from
    (λ p holds. (record { ordered = holds.1.0; fits = holds.1.1 }, refl))
    (λ ports is. ((ports.lower, ports.upper), (omega (arith, is.ordered, is.fits), (is.ordered, is.fits)), refl))
    (pair_reader (λ (n : ℕ). n < 2 ^ 16) (to_be_bytes w16) (number_at w16) IsFrom (λ _. to_be_bytes w16) upper_at two_reader upper_reader)

-- ---- tests of ports

abbrev TestOf : ℕ → PortTest → Type 0
TestOf zero test = port.Any ≡ test
TestOf (suc zero) test = (p : ℕ) × (port.Eq p ≡ test)
TestOf (suc (suc zero)) test = (p : ℕ) × (port.Neq p ≡ test)
TestOf (suc (suc (suc zero))) test = (p : ℕ) × (port.Lte p ≡ test)
TestOf (suc (suc (suc (suc zero)))) test = (p : ℕ) × (port.Gte p ≡ test)
TestOf (suc (suc (suc (suc (suc n))))) test = (ports : Ports) × (port.Range ports ≡ test)

test_of : (test : PortTest) → TestOf (test_number test) test
test_of port.Any = refl
test_of (port.Eq p) = (p, refl)
test_of (port.Neq p) = (p, refl)
test_of (port.Lte p) = (p, refl)
test_of (port.Gte p) = (p, refl)
test_of (port.Range ports) = (ports, refl)

test_is : (n : ℕ) (test : PortTest) → test_number test ≡ n → TestOf n test
test_is n test is = subst (λ (k : ℕ). TestOf k test) is (test_of test)

abbrev IsTestOf : ℕ → PortTest → Type 0
IsTestOf n test = IsTest test × (test_number test ≡ n)

value_reader : (n : ℕ) → IsWithin 0 5 n → IsReader (IsTestOf n) test_value (value_at n)
value_reader zero few = constant_reader (IsTestOf 0) test_value port.Any (tt, refl) refl (λ test holds. test_is 0 test holds.1)
value_reader (suc zero) few = variant_reader (λ (p : ℕ). p < 2 ^ 16) (to_be_bytes w16) (number_at w16) IsTest test_number test_value 1 port.Eq (λ p holds. holds) (λ p holds. holds) (λ p. refl) (λ p. refl) (test_is 1) two_reader
value_reader (suc (suc zero)) few = variant_reader (λ (p : ℕ). p < 2 ^ 16) (to_be_bytes w16) (number_at w16) IsTest test_number test_value 2 port.Neq (λ p holds. holds) (λ p holds. holds) (λ p. refl) (λ p. refl) (test_is 2) two_reader
value_reader (suc (suc (suc zero))) few = variant_reader (λ (p : ℕ). p < 2 ^ 16) (to_be_bytes w16) (number_at w16) IsTest test_number test_value 3 port.Lte (λ p holds. holds) (λ p holds. holds) (λ p. refl) (λ p. refl) (test_is 3) two_reader
value_reader (suc (suc (suc (suc zero)))) few = variant_reader (λ (p : ℕ). p < 2 ^ 16) (to_be_bytes w16) (number_at w16) IsTest test_number test_value 4 port.Gte (λ p holds. holds) (λ p holds. holds) (λ p. refl) (λ p. refl) (test_is 4) two_reader
value_reader (suc (suc (suc (suc (suc zero))))) few = variant_reader IsRange ports_bytes ports_at IsTest test_number test_value 5 port.Range (λ p holds. holds) (λ p holds. holds) (λ p. refl) (λ p. refl) (test_is 5) ports_reader
value_reader (suc (suc (suc (suc (suc (suc n)))))) few = absurd (omega (arith, between_most 0 5 (suc (suc (suc (suc (suc (suc n)))))) few.0))

test_small : (test : PortTest) → test_number test ≤ 5
test_small port.Any = omega arith
test_small (port.Eq p) = omega arith
test_small (port.Neq p) = omega arith
test_small (port.Lte p) = omega arith
test_small (port.Gte p) = omega arith
test_small (port.Range ports) = omega arith

pub test_reader : IsReader IsTest test_bytes test_at
unfolding test_at
test_reader =
    made_reader (λ p. IsWithin 0 5 p.0 × IsTestOf p.0 p.1) (λ p. byte p.0 ++ test_value p.1) (pair_at (within_at 0 5) value_at)
    IsTest test_bytes second
    (λ p holds. (holds.1.0, ap (λ (n : ℕ). n ∷ test_value p.1) holds.1.1))
    (λ test is. ((test_number test, test), ((is_between 0 5 (test_number test) (omega arith) (test_small test), omega (arith, test_small test)), (is, refl)), refl))
    (pair_reader (IsWithin 0 5) byte (within_at 0 5) IsTestOf (λ _. test_value) value_at
    (within_reader 0 5 (omega arith) (omega arith)) value_reader)
