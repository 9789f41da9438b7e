-- A text is of the form of one prefix at most, and the canonical text of a prefix is read as it.
use Rattle.std.proofs.Common.{◌≡◌, ◌≢◌, ℕ, ◌*◌, ◌/◌, ◌%◌, ◌<◌, ◌≤◌, List, [], ◌∷◌, ◌++◌, length, get_or, decimal, Option, Some, None, IfNone, Ok, subst, refl, sym, ap, ap₂, ◌∙◌, arith, append_assoc, le-leb}
use Rattle.std.proofs.lemmas.Fmt.{decimal_is_IsNumeral, decimal_injective}
use Rattle.std.proofs.lemmas.Str.Parse.{digit_at}
use Rattle.std.proofs.lemmas.Nat.{div-add-mod'}
use Rattle.std.proofs.lemmas.List.{length-append}
use Rattle.std.proofs.Math.Seq.{get_or-append_seam}
use Rattle.ip_scope.specs.declared.family.Family.{Family}
use Rattle.ip_scope.specs.declared.family.Family.TheVariants.{V4, V6}
use Rattle.ip_scope.specs.Family.{width}
use Rattle.ip_scope.specs.Prefix.{PrefixValue, IsPrefix, prefix_of, block_size}
use Rattle.ip_scope.specs.PrefixText.{IsAddressText, IsPrefixText, reading_of, address_text, prefix_text}
use Rattle.ip_scope.proofs.AddressTexts.{IsAddressText_unique, IsAddressText-address_text}

abbrev pub NoSlash : List ℕ → Type 0
NoSlash text = (k : ℕ) → k < length text → get_or text k 0 ≢ 47

no_slash-decimal : (n : ℕ) → n < 1000 → NoSlash (decimal n)
no_slash-decimal n small k within is =
    let digit = digit_at (decimal n) k (decimal_is_IsNumeral n (omega arith)).0.1 within in
    omega arith

-- what stands before the last slash, and after it
no_slash_inside : (a d : List ℕ) (text : List ℕ) → NoSlash text → text ≢ a ++ 47 ∷ d
no_slash_inside a d text none is =
    let seam = get_or-append_seam a 47 d 0 in
    let within : length a < length text = omega (arith, ap length is, length-append a (47 ∷ d)) in
    none (length a) within (ap (λ t. get_or t (length a) 0) is ∙ seam)

last_slash : (a d b e : List ℕ) → NoSlash d → NoSlash e → a ++ 47 ∷ d ≡ b ++ 47 ∷ e → (a ≡ b) × (d ≡ e)
last_slash [] d [] e none_d none_e same = (refl, cc)
last_slash [] d (y ∷ b) e none_d none_e same = let later : d ≡ b ++ 47 ∷ e = cc in absurd (no_slash_inside b e d none_d later)
last_slash (x ∷ a) d [] e none_d none_e same = let later : e ≡ a ++ 47 ∷ d = cc in absurd (no_slash_inside a d e none_e later)
last_slash (x ∷ a) d (y ∷ b) e none_d none_e same =
    let later : a ++ 47 ∷ d ≡ b ++ 47 ∷ e = cc in
    let (fronts, backs) = last_slash a d b e none_d none_e later in
    let heads : x ≡ y = cc in
    (ap₂ ◌∷◌ heads fronts, backs)

-- the parts of a text of the form
pub record HasParts (front back : List ℕ) (family : Family) (number len : ℕ) : Type 0 where
  pub is_address : IsAddressText front family number
  pub digits : back ≡ decimal len
  pub three_digits : len < 1000

pub parts_of : (text : List ℕ) (family : Family) (number len : ℕ) (address digits : List ℕ) → IsPrefixText text family number len → NoSlash digits → text ≡ address ++ 47 ∷ digits
    → HasParts address digits family number len
parts_of text family number len address digits is none split =
    let joined : is.address ++ 47 ∷ decimal len ≡ address ++ 47 ∷ digits = sym (append_assoc is.address (47 ∷ []) (decimal len)) ∙ sym is.spelled ∙ split in
    let (fronts, backs) = last_slash is.address (decimal len) address digits (no_slash-decimal len is.three_digits) none joined in
    record {
      is_address = subst (λ (t : List ℕ). IsAddressText t family number) fronts is.is_address;
      digits = sym backs;
      three_digits = is.three_digits;
    }

pub text_from : (text : List ℕ) (family : Family) (number len : ℕ) (address digits : List ℕ) → HasParts address digits family number len → text ≡ address ++ 47 ∷ digits
    → IsPrefixText text family number len
text_from text family number len address digits parts split = record {
  address = address;
  spelled = split ∙ ap (λ d. address ++ 47 ∷ d) parts.digits ∙ sym (append_assoc address (47 ∷ []) (decimal len));
  is_address = parts.is_address;
  three_digits = parts.three_digits;
}

pub if_none_from : {A : Type 0} (r : Option A) (P : Type 0) → P → IfNone r P
if_none_from None P proved = proved
if_none_from (Some x) P proved = tt

-- one reading
pub IsPrefixText_unique : (text : List ℕ) (f g : Family) (m n k l : ℕ) → IsPrefixText text f m k → IsPrefixText text g n l → (f ≡ g) × (m ≡ n) × (k ≡ l)
IsPrefixText_unique text f g m n k l h j =
    let split : text ≡ j.address ++ 47 ∷ decimal l = j.spelled ∙ append_assoc j.address (47 ∷ []) (decimal l) in
    let parts = parts_of text f m k j.address (decimal l) h (no_slash-decimal l j.three_digits) split in
    let (families, numbers) = IsAddressText_unique j.address f g m n parts.is_address j.is_address in
    let small = parts.three_digits in
    let smaller = j.three_digits in
    (families, numbers, sym (decimal_injective l k (omega arith) (omega arith) parts.digits))

pub reading_unique : (text : List ℕ) (f g : Family) (m n k l : ℕ) → IsPrefixText text f m k → IsPrefixText text g n l → reading_of f m k ≡ reading_of g n l
reading_unique text f g m n k l h j =
    let (families, numbers, lengths) = IsPrefixText_unique text f g m n k l h j in
    ap (λ x. reading_of x m k) families ∙ ap₂ (λ x y. reading_of g x y) numbers lengths

-- ---- the canonical text

width-small : (family : Family) → width family ≤ 128
width-small V4 = omega arith
width-small V6 = omega arith

pub IsPrefixText-prefix_text : (p : PrefixValue) → IsPrefix p → IsPrefixText (prefix_text p) p.family p.number p.length
IsPrefixText-prefix_text p is = record {
  address = address_text p.family p.number;
  spelled = refl;
  is_address = IsAddressText-address_text p.family p.number is.number;
  three_digits = omega (arith, is.length, width-small p.family);
}

-- a prefix is the prefix of its own number
cleared_itself : (n b : ℕ) → n % b ≡ 0 → n / b * b ≡ n
cleared_itself n b none = omega (arith, div-add-mod' n b)

pub prefix_of-itself : (p : PrefixValue) → IsPrefix p → prefix_of p.family p.number p.length ≡ p
prefix_of-itself p is =
    ap (λ n. record { family = p.family; number = n; length = p.length }) (cleared_itself p.number (block_size p.family p.length) is.host_bits)

pub reading_of-itself : (p : PrefixValue) → IsPrefix p → reading_of p.family p.number p.length ≡ Ok p
reading_of-itself p is = rw (le-leb p.length (width p.family) is.length) (ap Ok (prefix_of-itself p is))
