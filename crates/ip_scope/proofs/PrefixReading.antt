-- The prefix that a text writes is that which it is the text of.
use Rattle.std.proofs.Common.{◌≡◌, ◌≢◌, ℕ, ◌<◌, ◌≤◌, ◌^◌, Bool, true, false, if◌then◌else◌, true≢false, List, [], ◌∷◌, ◌++◌, length, codes, decimal, Option, Some, None, Ok, Err, refl, sym, ap, subst, ◌∙◌, append_assoc, append-nil, arith, lit≤, eqb, zero, suc, ◌+◌, ◌-◌, ◌==◌, take, drop, length-drop, add-one}
use Rattle.std.specs.Prelude.{slice_index, option_and_then, ◌&&◌, nat_le, bytes_eq}
use Rattle.std.specs.Char.{digit_value}
use Rattle.std.specs.Result.{result_ok}
use Rattle.std.specs.Net.Grammar.{IsDotted, IsColonHex}
use Rattle.std.specs.Net.Reader.{Read, read_ipv4, read_ipv6, whole_value}
use Rattle.std.specs.Str.Parse.{AllDigits, digits_value}
use Rattle.std.proofs.lemmas.Bool.{cond-true, cond-false, and_parts, and_from, leb-true, le-leb, eqb-true, ne_eqb}
use Rattle.std.proofs.Math.Bridge.{le_prop}
use Rattle.std.proofs.Math.Nat.{mod-eq_of_lt}
use Rattle.std.specs.Option.{option_map}
use Rattle.memchr.specs.Find.{NoneAfter}
use Rattle.std.proofs.lemmas.Bool.Decides.{nat_tests}
use Rattle.std.proofs.lemmas.Fmt.{decimal_is_IsNumeral}
use Rattle.std.proofs.lemmas.List.{nil_from_length, take_all}
use Rattle.std.proofs.lemmas.Slice.Eq.{bytes_eq-Decides}
use Rattle.std.proofs.NetLemmas.Ipv4.{read_ipv4_complete, read_ipv4_sound}
use Rattle.std.proofs.NetLemmas.Ipv6.{read_ipv6_complete, read_ipv6_sound, EndsGroups-nil, IsDotted-not_colon_hex}
use Rattle.std.proofs.NetLemmas.Options.{cond_some, same_parts}
use mathlib.Core.HLevel.{is_prop→PathP}
use Rattle.ip_scope.specs.declared.address.Addr.{Addr}
use Rattle.ip_scope.specs.declared.bad_prefix.BadPrefix.TheVariants as bad
use Rattle.ip_scope.specs.declared.family.Family.{Family}
use Rattle.ip_scope.specs.declared.family.Family.TheVariants.{V4, V6}
use Rattle.ip_scope.specs.Family.{width}
use Rattle.ip_scope.specs.Prefix.{PrefixValue, prefix_of}
use Rattle.ip_scope.specs.PrefixText.{IsAddressText, IsPrefixText, Reads, reading_of, v4_number, v6_number}
use Rattle.ip_scope.proofs.PrefixTexts.{IsPrefixText_unique}
use Rattle.ip_scope.specs.PrefixReader.{split_before, split_last, address_of, address_in, addr_of, addr_in, with_length, prefix_with, prefix_in}

-- ---- the last slash

split_step : (byte : ℕ) (bytes : List ℕ) (o : Option (List ℕ × List ℕ)) (x y : List ℕ) → ((x y : List ℕ) → o ≡ Some (x, y) → bytes ≡ x ++ 47 ∷ y)
    → split_before byte bytes o ≡ Some (x, y) → byte ∷ bytes ≡ x ++ 47 ∷ y
split_step byte bytes (Some parts) x y sound is =
    let same = same_parts (byte ∷ parts.0) x parts.1 y is in
    ap (λ (bs : List ℕ). byte ∷ bs) (sound parts.0 parts.1 refl) ∙ ap (λ (f : List ℕ). f ++ 47 ∷ parts.1) same.0 ∙ ap (λ (l : List ℕ). x ++ 47 ∷ l) same.1
split_step byte bytes None x y sound is =
    let slash = cond_some (eqb byte 47) ([], bytes) (x, y) is in
    ap (λ (n : ℕ). n ∷ bytes) (eqb-true byte 47 slash.0) ∙ ap (λ (q : List ℕ × List ℕ). q.0 ++ 47 ∷ q.1) slash.1

split_sound : (text x y : List ℕ) → split_last text ≡ Some (x, y) → text ≡ x ++ 47 ∷ y
split_sound [] x y is = absurd (cc)
split_sound (byte ∷ bytes) x y is = split_step byte bytes (split_last bytes) x y (split_sound bytes) is

abbrev NoSlash : List ℕ → Type 0
NoSlash [] = Unit {0}
NoSlash (byte ∷ bytes) = (byte ≢ 47) × NoSlash bytes

split_none : (y : List ℕ) → NoSlash y → split_last y ≡ None
split_none [] none = refl
split_none (byte ∷ bytes) none = rw (split_none bytes none.1) (cond-false (eqb byte 47) _ _ (ne_eqb byte 47 none.0))

split_complete : (x y : List ℕ) → NoSlash y → split_last (x ++ 47 ∷ y) ≡ Some (x, y)
split_complete [] y none = rw (split_none y none) refl
split_complete (byte ∷ x) y none = rw (split_complete x y none) refl

slash_tests : (byte : ℕ) → byte ≡ 47 → (byte == 47) ≡ true
slash_tests byte is = grind (arith, nat_tests)

-- a text without a slash has no last one
no_slash : (text : List ℕ) → ((k : ℕ) → k < length text → slice_index text k ≢ 47) → split_last text ≡ None
no_slash text none = split_none text (by text none)
  where
    by : (text : List ℕ) → ((k : ℕ) → k < length text → slice_index text k ≢ 47) → NoSlash text
    by [] none = tt
    by (byte ∷ bytes) none = (none 0 (omega arith), by bytes (λ k within. none (suc k) (omega arith)))

split_there : (text : List ℕ) (slash : ℕ) → slash < length text → slice_index text slash ≡ 47 → ((k : ℕ) → slash < k → k < length text → slice_index text k ≢ 47)
    → split_last text ≡ Some (take slash text, drop (suc slash) text)
split_there [] slash within is none = absurd (omega (arith, within))
split_there (byte ∷ bytes) zero within is none =
    rw (no_slash bytes (λ k h. none (suc k) (omega arith) (omega (arith, h)))) (cond-true (eqb byte 47) _ _ (slash_tests byte is))
split_there (byte ∷ bytes) (suc slash) within is none =
    rw (split_there bytes slash (omega (arith, within)) is (λ k low h. none (suc k) (omega (arith, low)) (omega (arith, h)))) refl

-- by the last place where a slash stands
pub no_slash_anywhere : (text : List ℕ) → ((k : ℕ) → 0 ≤ k → k < length text → ¬ ((slice_index text k == 47) ≡ true)) → None ≡ split_last text
no_slash_anywhere text none = sym (no_slash text (λ k h is. none k (omega arith) h (slash_tests (slice_index text k) is)))

pub last_slash : (text : List ℕ) (slash : ℕ) → NoneAfter (λ k. (slice_index text k == 47) ≡ true) 0 (length text) slash → (slice_index text slash == 47) ≡ true
    → Some (take slash text, take (length text - (slash + 1)) (drop (slash + 1) text)) ≡ split_last text
last_slash text slash none is =
    let whole : take (length text - (slash + 1)) (drop (slash + 1) text) ≡ drop (slash + 1) text = take_all _ _ (omega (arith, length-drop (slash + 1) text)) in
    rw whole (rw (add-one slash) (sym (split_there text slash none.high (eqb-true (slice_index text slash) 47 is)
    (λ k low h here. none.after k (omega (arith, low)) h (slash_tests (slice_index text k) here)))))

digits_no_slash : (text : List ℕ) → AllDigits 10 text → NoSlash text
digits_no_slash [] digits = tt
digits_no_slash (byte ∷ bytes) digits = (λ slash. not_slash byte slash digits.0, digits_no_slash bytes digits.1)
  where
    not_slash : (byte : ℕ) → byte ≡ 47 → digit_value byte < 10 → ⊥
    not_slash byte slash small = let wrong : 36 < 10 = subst (λ (n : ℕ). digit_value n < 10) slash small in omega arith

-- ---- addresses

whole_sound : {A : Type 0} (r : Read A) (value : A) → whole_value r ≡ Some value → r ≡ Some (value, [])
whole_sound {A = A} None value is = absurd (cc)
whole_sound {A = A} (Some p) value is =
    let ended = cond_some (eqb (length p.1) 0) p.0 value is in
    ap (λ (v : A). Some (v, p.1)) ended.1 ∙ ap (λ (l : List ℕ). Some (value, l)) (nil_from_length p.1 (eqb-true (length p.1) 0 ended.0))

whole_complete : {A : Type 0} (r : Read A) (value : A) → r ≡ Some (value, []) → whole_value r ≡ Some value
whole_complete {A = A} r value is = ap (λ (r : Read A). whole_value r) is

ipv4_sound : (text octets : List ℕ) → whole_value (read_ipv4 text) ≡ Some octets → IsDotted text octets
ipv4_sound text octets is =
    let read = read_ipv4_sound text octets [] (whole_sound (read_ipv4 text) octets is) in
    subst (λ (t : List ℕ). IsDotted t octets) (sym (read.1 ∙ append-nil read.0)) read.2

ipv6_sound : (text groups : List ℕ) → whole_value (read_ipv6 text) ≡ Some groups → IsColonHex text groups
ipv6_sound text groups is =
    let read = read_ipv6_sound text groups [] (whole_sound (read_ipv6 text) groups is) in
    subst (λ (t : List ℕ). IsColonHex t groups) (sym (read.1 ∙ append-nil read.0)) read.2

ipv4_complete : (text octets : List ℕ) → IsDotted text octets → whole_value (read_ipv4 text) ≡ Some octets
ipv4_complete text octets dotted =
    whole_complete (read_ipv4 text) octets (ap (λ (t : List ℕ). read_ipv4 t) (sym (append-nil text)) ∙ read_ipv4_complete text octets [] dotted (lit≤ tt))

ipv6_complete : (text groups : List ℕ) → IsColonHex text groups → whole_value (read_ipv6 text) ≡ Some groups
ipv6_complete text groups hex =
    whole_complete (read_ipv6 text) groups (ap (λ (t : List ℕ). read_ipv6 t) (sym (append-nil text)) ∙ read_ipv6_complete text groups [] hex EndsGroups-nil)

address_sound : (text : List ℕ) (family : Family) (number : ℕ) → address_in text ≡ Some (family, number) → IsAddressText text family number
unfolding address_in
address_sound text family number is = by_parts (whole_value (read_ipv4 text)) (whole_value (read_ipv6 text)) refl refl is
  where
    by_parts : (four six : Option (List ℕ)) → whole_value (read_ipv4 text) ≡ four → whole_value (read_ipv6 text) ≡ six → address_of four six ≡ Some (family, number) → IsAddressText text family number
    by_parts (Some octets) six is_four is_six is =
        let same = same_parts V4 family (v4_number octets) number is in
        subst (λ (f : Family). IsAddressText text f number) same.0 (octets, ipv4_sound text octets is_four, sym same.1)
    by_parts None (Some groups) is_four is_six is =
        let same = same_parts V6 family (v6_number groups) number is in
        subst (λ (f : Family). IsAddressText text f number) same.0 (groups, ipv6_sound text groups is_six, sym same.1)
    by_parts None None is_four is_six is = absurd (cc)

pub address_complete : (text : List ℕ) (family : Family) (number : ℕ) → IsAddressText text family number → address_in text ≡ Some (family, number)
unfolding address_in
address_complete text V4 number is =
    ap (λ (o : Option (List ℕ)). address_of o (whole_value (read_ipv6 text))) (ipv4_complete text is.0 is.1) ∙ ap (λ (n : ℕ). Some (V4, n)) (sym is.2)
address_complete text V6 number is = other (whole_value (read_ipv4 text)) refl
  where
    other : (o : Option (List ℕ)) → whole_value (read_ipv4 text) ≡ o → address_of (whole_value (read_ipv4 text)) (whole_value (read_ipv6 text)) ≡ Some (V6, number)
    other (Some octets) four = absurd (IsDotted-not_colon_hex text octets is.0 (ipv4_sound text octets four) is.1)
    other None four =
        ap (λ (o : Option (List ℕ)). address_of o (whole_value (read_ipv6 text))) four
        ∙ ap (λ (o : Option (List ℕ)). address_of None o) (ipv6_complete text is.0 is.1) ∙ ap (λ (n : ℕ). Some (V6, n)) (sym is.2)

addr_once : (one other : Addr) → one.family ≡ other.family → one.number ≡ other.number → one ≡ other
addr_once one other family number = λ i. record {
  family = family i;
  number = number i;
  fits = is_prop→PathP (λ j. number j < 2 ^ width (family j)) (λ j x y. le_prop x y) one.fits other.fits i;
}

-- an address is that of its parts
addr_back : (a : Addr) → a ≡ addr_of (a.family, a.number)
addr_back a = addr_once a (addr_of (a.family, a.number)) refl (sym (mod-eq_of_lt a.fits))

-- a text that writes an address has it, and any other text has none
pub address_there : (text : List ℕ) (a : Addr) → IsAddressText text a.family a.number → Some a ≡ addr_in text
address_there text a is = ap Some (addr_back a) ∙ sym (ap (λ (o : Option (Family × ℕ)). option_map addr_of o) (address_complete text a.family a.number is))

pub no_address_there : (text : List ℕ) → ((family : Family) (number : ℕ) → ¬ (IsAddressText text family number)) → None ≡ addr_in text
no_address_there text none = by (address_in text) refl
  where
    by : (o : Option (Family × ℕ)) → address_in text ≡ o → None ≡ option_map addr_of (address_in text)
    by None found = sym (ap (λ (o : Option (Family × ℕ)). option_map addr_of o) found)
    by (Some a) found = absurd (none a.0 a.1 (address_sound text a.0 a.1 found))

-- ---- prefixes

pub width_small : (family : Family) → width family ≤ 128
width_small V4 = lit≤ tt
width_small V6 = lit≤ tt

-- the text is that of a prefix whose length fits
record Written (text : List ℕ) (p : PrefixValue) : Type 0 where
  family : Family
  number : ℕ
  length : ℕ
  spelled : IsPrefixText text family number length
  within : length ≤ width family
  value : prefix_of family number length ≡ p

abbrev length_test : List ℕ → Family → Bool
length_test back family = bytes_eq (decimal (digits_value 10 back)) back && nat_le (digits_value 10 back) (width family)

written : (text front back : List ℕ) (family : Family) (number : ℕ) (p : PrefixValue) → text ≡ front ++ 47 ∷ back → IsAddressText front family number
    → with_length back (family, number) ≡ Some p → Written text p
written text front back family number p is address fits =
    let value = digits_value 10 back in
    let holds = cond_some (length_test back family) (prefix_of family number value) p fits in
    let parts = and_parts (bytes_eq (decimal value) back) (nat_le value (width family)) holds.0 in
    let digits = (bytes_eq-Decides (decimal value) back).0 parts.0 in
    let within = leb-true value (width family) parts.1 in
    record {
      family = family;
      number = number;
      length = value;
      spelled = record {
        address = front;
        spelled = is ∙ sym (append_assoc front (codes "/") back) ∙ ap (λ (d : List ℕ). (front ++ codes "/") ++ d) (sym digits);
        is_address = address;
        three_digits = omega (arith, within, width_small family);
      };
      within = within;
      value = holds.1;
    }

prefix_sound : (text : List ℕ) (p : PrefixValue) → prefix_in text ≡ Some p → Written text p
unfolding prefix_in
prefix_sound text p is = by_split (split_last text) refl is
  where
    by_address : (front back : List ℕ) (o : Option (Family × ℕ)) → text ≡ front ++ 47 ∷ back → address_in front ≡ o → option_and_then (with_length back) o ≡ Some p → Written text p
    by_address front back None split address is = absurd (cc)
    by_address front back (Some a) split address is = written text front back a.0 a.1 p split (address_sound front a.0 a.1 address) is

    by_split : (o : Option (List ℕ × List ℕ)) → split_last text ≡ o → prefix_with o ≡ Some p → Written text p
    by_split None split is = absurd (cc)
    by_split (Some parts) split is = by_address parts.0 parts.1 (address_in parts.0) (split_sound text parts.0 parts.1 split) refl is

prefix_complete : (text : List ℕ) (family : Family) (number length : ℕ) → IsPrefixText text family number length → length ≤ width family
    → prefix_in text ≡ Some (prefix_of family number length)
unfolding prefix_in
prefix_complete text family number length is within =
    let small : length < 2 ^ 64 = omega (arith, width_small family) in
    let numeral = decimal_is_IsNumeral length small in
    let back = decimal length in
    let whole : text ≡ is.address ++ 47 ∷ back = is.spelled ∙ append_assoc is.address (codes "/") back in
    let split : split_last text ≡ Some (is.address, back) =
    ap (λ (t : List ℕ). split_last t) whole ∙ split_complete is.address back (digits_no_slash back numeral.0.1) in
    let same = (bytes_eq-Decides (decimal (digits_value 10 back)) back).1 (ap (λ (n : ℕ). decimal n) numeral.1) in
    let fits : digits_value 10 back ≤ width family = omega (arith, numeral.1) in
    let test = and_from _ (nat_le (digits_value 10 back) (width family)) same (le-leb (digits_value 10 back) (width family) fits) in
    ap (λ (o : Option (List ℕ × List ℕ)). prefix_with o) split
    ∙ ap (λ (o : Option (Family × ℕ)). option_and_then (with_length back) o) (address_complete is.address family number is.is_address)
    ∙ cond-true _ _ _ test ∙ ap (λ (n : ℕ). Some (prefix_of family number n)) numeral.1

-- the prefix of a text is that which the text writes
pub prefix_reads : (text : List ℕ) (p : PrefixValue) → prefix_in text ≡ Some p → Reads text p
prefix_reads text p is =
    let w = prefix_sound text p is in
    subst (λ (q : PrefixValue). Reads text q) w.value (record { number = w.number; spelled = w.spelled; within = w.within; cleared = refl })

pub reads_prefix : (text : List ℕ) (p : PrefixValue) → Reads text p → prefix_in text ≡ Some p
reads_prefix text p reads =
    prefix_complete text p.family reads.number p.length reads.spelled reads.within ∙ ap (λ (q : PrefixValue). Some q) (sym reads.cleared)

-- a text of an address and a length has the prefix that these come to
pub prefix_of_reading : (text : List ℕ) (family : Family) (number length : ℕ) → IsPrefixText text family number length → result_ok (reading_of family number length) ≡ prefix_in text
prefix_of_reading text family number length is = by (nat_le length (width family)) refl
  where
    none : nat_le length (width family) ≡ false → (o : Option PrefixValue) → prefix_in text ≡ o → None ≡ prefix_in text
    none above None found = sym found
    none above (Some p) found =
        let w = prefix_sound text p found in
        let same = IsPrefixText_unique text w.family family w.number number w.length length w.spelled is in
        let within = subst (λ (f : Family). w.length ≤ width f) same.0 w.within in
        absurd (true≢false (sym (le-leb length (width family) (subst (λ (n : ℕ). n ≤ width family) same.2 within)) ∙ above))

    by : (b : Bool) → nat_le length (width family) ≡ b → result_ok (if b then Ok (prefix_of family number length) else Err bad.Length) ≡ prefix_in text
    by true e = sym (prefix_complete text family number length is (leb-true length (width family) e))
    by false e = none e (prefix_in text) refl

-- and any other text has none
pub no_prefix : (text : List ℕ) → ((family : Family) (number length : ℕ) → ¬ (IsPrefixText text family number length)) → None ≡ prefix_in text
no_prefix text none = by (prefix_in text) refl
  where
    by : (o : Option PrefixValue) → prefix_in text ≡ o → None ≡ prefix_in text
    by None found = sym found
    by (Some p) found = let w = prefix_sound text p found in absurd (none w.family w.number w.length w.spelled)
