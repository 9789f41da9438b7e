-- Numbers below 2^64, in decimal.
use Rattle.std.proofs.Common.{◌≡◌, ℕ, ◌-◌, ◌^◌, ◌<◌, Bool, true, false, List, decimal, Some, None, IsUtf8, Result, Ok, Err, refl, sym, ap, subst, ◌∙◌, arith, true≢false, if◌then◌else◌}
use Rattle.std.specs.Prelude.{nat_le, bytes_eq, ◌&&◌}
use Rattle.std.specs.Str.Parse.{digits_value, ParsesUnsigned}
use Rattle.std.proofs.lemmas.Bool.Decides.{nat_tests}
use Rattle.std.proofs.lemmas.Fmt.{decimal_is_IsNumeral, parse-decimal, IsAscii-decimal}
use Rattle.std.proofs.lemmas.Str.{IsUtf8-from_ascii}
use Rattle.std.proofs.lemmas.Slice.Eq.{bytes_eq-Decides}
use Rattle.dots_lists.specs.Numbers.{number_in, is_number_in}

both : (a b : Bool) → (a && b) ≡ true → (a ≡ true) × (b ≡ true)
both true b e = (refl, e)
both false b e = absurd (cc)

within : (n : ℕ) → nat_le n (2 ^ 64 - 1) ≡ true → n < 2 ^ 64
within n e = grind (arith, nat_tests)

none_by : (b : Bool) (n : ℕ) → (b ≡ true → ⊥) → None ≡ (if b then Some n else None)
none_by true n never = absurd (never refl)
none_by false n never = refl

-- a text that writes no such number
pub no_number : (text : List ℕ) → ((n : ℕ) → n < 2 ^ 64 → text ≡ decimal n → ⊥) → None ≡ number_in 0 (2 ^ 64 - 1) text
no_number text never = none_by (is_number_in 0 (2 ^ 64 - 1) text) (digits_value 10 text) writes
  where
    writes : is_number_in 0 (2 ^ 64 - 1) text ≡ true → ⊥
    writes is =
        let v : ℕ = digits_value 10 text in
        let parts = both (bytes_eq (decimal v) text && nat_le 0 v) (nat_le v (2 ^ 64 - 1)) is in
        let front = both (bytes_eq (decimal v) text) (nat_le 0 v) parts.0 in
        never v (within v parts.1) (sym ((bytes_eq-Decides (decimal v) text).0 front.0))

small : (n : ℕ) → n < 2 ^ 64 → (nat_le 0 n && nat_le n (2 ^ 64 - 1)) ≡ true
small n e = grind (arith, nat_tests)

-- a text that writes this one
pub a_number : (text : List ℕ) (n : ℕ) → n < 2 ^ 64 → text ≡ decimal n → Some n ≡ number_in 0 (2 ^ 64 - 1) text
a_number text n few is = rw (spells, worth, small n few) refl
  where
    worth : digits_value 10 text ≡ n
    worth = ap (λ (ds : List ℕ). digits_value 10 ds) is ∙ (decimal_is_IsNumeral n few).1

    spells : bytes_eq (decimal (digits_value 10 text)) text ≡ true
    spells = (bytes_eq-Decides (decimal (digits_value 10 text)) text).1 (ap (λ (n : ℕ). decimal n) worth ∙ sym is)

-- ---- why a text is none

pub not_utf8 : (text : List ℕ) → (IsUtf8 text → ⊥) → None ≡ number_in 0 (2 ^ 64 - 1) text
not_utf8 text never = no_number text (λ n few is. never (subst IsUtf8 (sym is) (IsUtf8-from_ascii (decimal n) (IsAscii-decimal n few))))

err_ok : {E : Type 0} (e : E) (n : ℕ) → Err e ≡ Ok n → ⊥
err_ok e n same = cc

same_ok : {E : Type 0} (m n : ℕ) → ◌≡◌ {A = Result ℕ E} (Ok m) (Ok n) → m ≡ n
same_ok m n same = cc

pub not_parsed : {E : Type 0} (text digits : List ℕ) (e : E) → digits ≡ text → ParsesUnsigned 64 10 digits (Err e) → None ≡ number_in 0 (2 ^ 64 - 1) text
not_parsed text digits e same parses = no_number text (λ n few is. err_ok e n (parse-decimal 64 n digits (Err e) few few (same ∙ is) parses))

pub not_spelled : {E : Type 0} (text digits : List ℕ) (number : ℕ) (result : Result ℕ E) → result ≡ Ok number → digits ≡ text → ParsesUnsigned 64 10 digits result → bytes_eq text (decimal number) ≡ false
    → None ≡ number_in 0 (2 ^ 64 - 1) text
not_spelled text digits number result ok same parses other = no_number text (λ n few is.
    let same_number : number ≡ n = same_ok number n (sym ok ∙ parse-decimal 64 n digits result few few (same ∙ is) parses) in
    true≢false (sym ((bytes_eq-Decides text (decimal number)).1 (is ∙ ap (λ (k : ℕ). decimal k) (sym same_number))) ∙ other))

pub spelled : (text : List ℕ) (number : ℕ) → number < 2 ^ 64 → bytes_eq text (decimal number) ≡ true → Some number ≡ number_in 0 (2 ^ 64 - 1) text
spelled text number few same = a_number text number few ((bytes_eq-Decides text (decimal number)).0 same)
