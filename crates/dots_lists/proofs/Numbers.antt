-- Numbers in decimal, as texts that are read and as tests.
use Rattle.std.proofs.Common.{◌≡◌, ℕ, ◌<◌, ◌≤◌, ◌^◌, true, false, List, decimal, Some, None, refl, sym, ap, ◌∙◌, arith, ◌⊎◌, inl, inr}
use Rattle.std.specs.Prelude.{nat_le, bytes_eq, ◌&&◌}
use Rattle.std.specs.Str.Parse.{digits_value}
use Rattle.std.proofs.lemmas.Bool.Decides.{nat_tests}
use Rattle.std.proofs.lemmas.Fmt.{decimal_is_IsNumeral}
use Rattle.std.proofs.lemmas.Slice.Eq.{bytes_eq-Decides}
use Rattle.dots_lists.specs.Numbers.{number_in}

-- what the text of a number is worth
worth : (text : List ℕ) (n : ℕ) → n < 10 ^ 19 → text ≡ decimal n → digits_value 10 text ≡ n
worth text n small is = ap (λ (ds : List ℕ). digits_value 10 ds) is ∙ (decimal_is_IsNumeral n (omega arith)).1

-- the text of a number is that of its worth
spells : (text : List ℕ) (n : ℕ) → n < 10 ^ 19 → text ≡ decimal n → bytes_eq (decimal (digits_value 10 text)) text ≡ true
spells text n small is = (bytes_eq-Decides (decimal (digits_value 10 text)) text).1 (ap (λ (n : ℕ). decimal n) (worth text n small is) ∙ sym is)

within : (least most n : ℕ) → least ≤ n → n ≤ most → (nat_le least n && nat_le n most) ≡ true
within least most n low high = grind (arith, nat_tests)

-- a text that writes a number in the range has it, and no other text
pub number_there : (least most : ℕ) (text : List ℕ) (n : ℕ) → n < 10 ^ 19 → text ≡ decimal n → least ≤ n → n ≤ most → Some n ≡ number_in least most text
number_there least most text n small is low high = rw (spells text n small is, worth text n small is, within least most n low high) refl

without : (least most n : ℕ) → (n < least) ⊎ ((least ≤ n) × (most < n)) → (nat_le least n && nat_le n most) ≡ false
without least most n (inl few) = grind (arith, nat_tests)
without least most n (inr many) = grind (arith, nat_tests)

pub out_of_range : (least most : ℕ) (text : List ℕ) (n : ℕ) → n < 10 ^ 19 → text ≡ decimal n → (n < least) ⊎ ((least ≤ n) × (most < n)) → None ≡ number_in least most text
out_of_range least most text n small is out = rw (spells text n small is, worth text n small is, without least most n out) refl
