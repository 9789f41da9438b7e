-- Decimal digits with no leading zero.
use Rattle.std.proofs.Common.{◌≡◌, ◌≢◌, ℕ, ◌-◌, ◌^◌, ◌<◌, ◌≤◌, false, IsTrue, List, length, get_or, take, length-take, decimal, Option, Some, None, IfSome, IfNone, sym, ◌∙◌, ap, subst, arith, lit<, inl, inr}
use Rattle.std.proofs.Math.Nat.{pow-le-pow_right}
use Rattle.std.proofs.lemmas.Bool.{cases_eq, cases_lt}
use Rattle.std.proofs.lemmas.Bool.Decides.{nat_tests}
use Rattle.std.proofs.lemmas.Fmt.{decimal_is_IsNumeral, decimal_digit, first_decimal, length-decimal-le, decimal-digits_value}
use Rattle.std.proofs.lemmas.Int.Digits.{digits_value-lt}
use Rattle.std.proofs.lemmas.Str.Parse.{numerals_by_value, tells_digits}
use Rattle.std.specs.Char.{digit_value}
use Rattle.std.specs.Str.Parse.{AllDigits, digits_value}

-- one to nineteen digits, and more than one only where the first isn't zero
pub record IsDecimal (text : List ℕ) (n : ℕ) : Type 0 where
  pub digits : AllDigits 10 text
  pub value : digits_value 10 text ≡ n
  pub some : 0 < length text
  pub few : length text ≤ 19
  pub no_leading_zero : get_or text 0 0 ≡ 48 → length text ≡ 1

pub IsDecimal-decimal : (n : ℕ) → n < 10 ^ 19 → IsDecimal (decimal n) n
IsDecimal-decimal n small =
    let numeral = decimal_is_IsNumeral n (omega arith) in
    record {
      digits = numeral.0.1;
      value = numeral.1;
      some = numeral.0.0;
      few = length-decimal-le 19 n (omega arith) (omega arith) (omega arith);
      no_leading_zero = λ zero_first. elim (cases_eq n 0) [
        | inl none ↦ ap (λ m. length (decimal m)) none ∙ ap length (decimal_digit 0 (lit< tt))
        | inr some ↦ absurd (omega (arith, first_decimal n (omega arith) (omega arith)))
      ];
    }

pub IsDecimal-of : (digits : List ℕ) (n : ℕ) → n < 10 ^ 19 → digits ≡ decimal n → IsDecimal digits n
IsDecimal-of digits n small is = subst (λ (text : List ℕ). IsDecimal text n) (sym is) (IsDecimal-decimal n small)

pub digits_bound : (digits : List ℕ) (most : ℕ) → AllDigits 10 digits → length digits ≤ most → digits_value 10 digits < 10 ^ most
digits_bound digits most all few =
    let power : 10 ^ length digits ≤ 10 ^ most = pow-le-pow_right (lit< tt) few in
    omega (arith, digits_value-lt 10 digits all)

-- what stands before a digit leaves room for it
pub before_digit : (digits : List ℕ) (i : ℕ) → i < length digits → length digits ≤ 19 → AllDigits 10 (take i digits) → digits_value 10 (take i digits) < 10 ^ 18
before_digit digits i here few all = digits_bound (take i digits) 18 all (omega (arith, length-take i digits))

pub below_limit : (digits : List ℕ) → AllDigits 10 digits → length digits ≤ 19 → digits_value 10 digits < 10 ^ 19
below_limit digits all few = digits_bound digits 19 all few

pub decimal-from_digits : (digits : List ℕ) (n : ℕ) → IsDecimal digits n → (n < 10 ^ 19) × (digits ≡ decimal n)
decimal-from_digits digits n worth =
    let small = below_limit digits worth.digits worth.few in
    let same = decimal-digits_value (numerals_by_value (AllDigits 10) tells_digits) digits worth.digits worth.some worth.no_leading_zero (omega arith) in
    (omega (arith, worth.value), sym same ∙ ap decimal worth.value)

-- what is worth something is the decimal of that, and nothing else is a decimal
pub one_digit : (digits : List ℕ) → 0 < length digits → ((1 < length digits) × (get_or digits 0 0 ≡ 48) → IsTrue false) → get_or digits 0 0 ≡ 48 → length digits ≡ 1
one_digit digits some none zero_first =
    elim (cases_lt 1 (length digits)) [ inl two ↦ let wrong = none (two, zero_first) in cc | inr few ↦ omega arith ]

pub decimal-found : (r : Option ℕ) (digits : List ℕ) → IfSome r (λ n. AllDigits 10 digits × (digits_value 10 digits ≡ n)) → 0 < length digits → length digits ≤ 19
    → (get_or digits 0 0 ≡ 48 → length digits ≡ 1) → IfSome r (λ n. (n < 10 ^ 19) × (digits ≡ decimal n))
decimal-found None digits found some few first = tt
decimal-found (Some n) digits found some few first =
    decimal-from_digits digits n (record { digits = found.0; value = found.1; some = some; few = few; no_leading_zero = first })

pub decimal-none : (r : Option ℕ) (digits : List ℕ) → IfNone r (¬ (AllDigits 10 digits)) → IfNone r ((n : ℕ) → n < 10 ^ 19 → digits ≢ decimal n)
decimal-none None digits none = λ n small is. none (IsDecimal-of digits n small is).digits
decimal-none (Some n) digits none = tt

pub digit_value-ascii : (b : ℕ) → 48 ≤ b → b ≤ 57 → digit_value b ≡ b - 48
digit_value-ascii b low high = grind (arith, nat_tests)
