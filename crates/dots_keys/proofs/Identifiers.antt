-- Identifiers as decimal digits.
use Rattle.std.proofs.Common.{◌≡◌, ℕ, ◌<◌, ◌≤◌, ◌^◌, Bool, true, List, [], ◌∷◌, length, refl, ap, ◌∙◌, arith, Ok, Err}
use Rattle.std.specs.Prelude.{◌&&◌, nat_le, nat_lt}
use Rattle.std.specs.List.{list_all}
use Rattle.std.specs.Char.{is_digit, digit_value}
use Rattle.std.specs.Str.Parse.{AllDigits, digits_value}
use Rattle.std.proofs.lemmas.Bool.{cond-true, cond-false, and_parts, and_from, ltb-true, lt-ltb, leb-true, le-leb, false_from_ne_true}
use Rattle.dots_keys.specs.declared.reject.Reject.TheVariants as reject
use Rattle.dots_keys.specs.Operations.{is_identifier, identifier}

digits_pass : (text : List ℕ) → AllDigits 10 text → list_all (λ byte. is_digit byte 10) text ≡ true
digits_pass [] digits = refl
digits_pass (b ∷ text) digits = and_from (is_digit b 10) _ (lt-ltb (digit_value b) 10 digits.0) (digits_pass text digits.1)

pass_digits : (text : List ℕ) → list_all (λ byte. is_digit byte 10) text ≡ true → AllDigits 10 text
pass_digits [] pass = tt
pass_digits (b ∷ text) pass =
    let parts = and_parts (is_digit b 10) (list_all (λ byte. is_digit byte 10) text) pass in
    (ltb-true (digit_value b) 10 parts.0, pass_digits text parts.1)

abbrev few : List ℕ → Bool
few text = nat_le 1 (length text) && nat_le (length text) 10

abbrev digits : List ℕ → Bool
digits text = list_all (λ byte. is_digit byte 10) text

pub identifies : (text : List ℕ) (n : ℕ) → AllDigits 10 text → digits_value 10 text ≡ n → 1 ≤ length text → length text ≤ 10 → n < 2 ^ 32 → identifier text ≡ Ok n
identifies text n all worth some most below =
    let size = and_from (nat_le 1 (length text)) (nat_le (length text) 10) (le-leb 1 (length text) some) (le-leb (length text) 10 most) in
    let form = and_from (few text) (digits text) size (digits_pass text all) in
    let value : digits_value 10 text < 2 ^ 32 = omega (arith, worth) in
    cond-true (is_identifier text) _ _ (and_from (few text && digits text) _ form (lt-ltb (digits_value 10 text) (2 ^ 32) value)) ∙ ap Ok worth

pub no_identifier : (text : List ℕ) → (1 ≤ length text → length text ≤ 10 → AllDigits 10 text → digits_value 10 text < 2 ^ 32 → ⊥) → identifier text ≡ Err reject.Parameter
no_identifier text none =
    cond-false (is_identifier text) _ _ (false_from_ne_true (is_identifier text) (λ is.
    let parts = and_parts (few text && digits text) (nat_lt (digits_value 10 text) (2 ^ 32)) is in
    let form = and_parts (few text) (digits text) parts.0 in
    let size = and_parts (nat_le 1 (length text)) (nat_le (length text) 10) form.0 in
    none (leb-true 1 (length text) size.0) (leb-true (length text) 10 size.1) (pass_digits text form.1) (ltb-true (digits_value 10 text) (2 ^ 32) parts.1)))
