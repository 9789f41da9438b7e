-- The bytes of a number whose last bits are zero.
use Rattle.std.proofs.Common.{mul_assoc, ◌≡◌, ℕ, zero, suc, ◌+◌, ◌-◌, ◌*◌, ◌/◌, ◌%◌, ◌^◌, ◌<◌, ◌≤◌, inl, inr, min, true, List, ◌∷◌, ◌++◌, Ok, Err, refl, sym, ap, subst, ◌∙◌, arith}
use Rattle.std.proofs.lemmas.Bool.{cases_lt, eq-eqb}
use Rattle.std.proofs.lemmas.Bool.Decides.{nat_tests}
use Rattle.std.proofs.lemmas.Nat.{pow-add, pow_pos, mod-pow-add, div-mul-add, mod-mul-add, div_below}
use Rattle.std.proofs.Math.Pow.{mod-mod-pow}
use Rattle.std.proofs.Math.Nat.{mul-le-mul_right, mod-lt, mul-add-mod_self_right}
use Rattle.std.specs.Int.{bytes_high_first}
use Rattle.std.specs.Int as int
use native.Mathlib.Numerals.{unary_clauses}
use Rattle.std.proofs.Common.{Result, IfOk}
use Rattle.ip_scope.specs.declared.family.Family.{Family}
use Rattle.ip_scope.specs.declared.family.Family.TheVariants.{V4, V6}
use Rattle.ip_scope.specs.Family.{width}
use Rattle.ip_scope.specs.Prefix.{IsPrefix}
use Rattle.slot_journal.specs.declared.record_fault.EntryFault.{EntryFault}
use Rattle.slot_journal.specs.Values.{IsByte}
use Rattle.slot_journal.specs.Layout.{byte}
use Rattle.slot_journal.specs.RecordReading.{address_at, byte_at, leads, both_at, zeros}
use Rattle.slot_journal.proofs.Readers.{IsReader, Sound, byte_reader, made_reader, pair_reader}

pub pow_256 : (k : ℕ) → 256 ^ k ≡ 2 ^ (8 * k)
pow_256 zero = refl
pow_256 (suc k) =
    let a : 256 ^ suc k ≡ 256 * 256 ^ k = simp unary_clauses (omega arith) in
    let b : 8 * suc k ≡ 8 * k + 8 = omega arith in
    let c : 2 ^ (8 * k + 8) ≡ 2 ^ (8 * k) * 256 = pow-add 2 (8 * k) 8 in
    rw (a, pow_256 k, b, c) (omega arith)

pub byte_of : (j n : ℕ) → int.byte_at j n ≡ n / 2 ^ (8 * j) % 256
byte_of zero n = omega arith
byte_of (suc j) n = ap (λ (p : ℕ). n / p % 256) (pow_256 (suc j))

-- the digits of a number in two parts
split_digits : (p x y a b : ℕ) → x < p → y < p → a * p + x ≡ b * p + y → (a ≡ b) × (x ≡ y)
split_digits p x y a b lx ly same = (
  sym (div-mul-add a p x lx) ∙ ap (λ (n : ℕ). n / p) same ∙ div-mul-add b p y ly,
  sym (mod-mul-add a p x lx) ∙ ap (λ (n : ℕ). n % p) same ∙ mod-mul-add b p y ly,
)

pub same_low : (j n m : ℕ) → n % 2 ^ (8 * j) ≡ m % 2 ^ (8 * j) → bytes_high_first j n ≡ bytes_high_first j m
same_low zero n m same = refl
same_low (suc j) n m same =
    let p : 0 < 2 ^ (8 * j) = pow_pos (8 * j) in
    let more : 8 * suc j ≡ 8 + 8 * j = omega arith in
    let both : n % 2 ^ (8 + 8 * j) ≡ m % 2 ^ (8 + 8 * j) = subst (λ (e : ℕ). n % 2 ^ e ≡ m % 2 ^ e) more same in
    let parts = split_digits (2 ^ (8 * j)) (n % 2 ^ (8 * j)) (m % 2 ^ (8 * j)) (n / 2 ^ (8 * j) % 2 ^ 8) (m / 2 ^ (8 * j) % 2 ^ 8) (mod-lt n p) (mod-lt m p)
    (sym (mod-pow-add n 8 (8 * j)) ∙ both ∙ mod-pow-add m 8 (8 * j)) in
    let head : int.byte_at j n ≡ int.byte_at j m = byte_of j n ∙ parts.0 ∙ sym (byte_of j m) in
    let tail = same_low j n m parts.1 in
    λ i. head i ∷ tail i

pub small_mod : (m p : ℕ) → m < p → m % p ≡ m
small_mod m p low = let same : 0 * p + m ≡ m = omega arith in ap (λ (n : ℕ). n % p) (sym same) ∙ mod-mul-add 0 p m low

pub high_byte : (k b m : ℕ) → b < 256 → m < 2 ^ (8 * k) → bytes_high_first (suc k) (b * 2 ^ (8 * k) + m) ≡ b ∷ bytes_high_first k m
high_byte k b m small low =
    let p = 2 ^ (8 * k) in
    let top : (b * p + m) / p ≡ b = div-mul-add b p m low in
    let rest : (b * p + m) % p ≡ m = mod-mul-add b p m low in
    let head : int.byte_at k (b * p + m) ≡ b = byte_of k (b * p + m) ∙ ap (λ (n : ℕ). n % 256) top ∙ omega arith in
    let tail = same_low k (b * p + m) m (rest ∙ sym (small_mod m p low)) in
    λ i. head i ∷ tail i

pub below_more : (k b m : ℕ) → b < 256 → m < 2 ^ (8 * k) → b * 2 ^ (8 * k) + m < 2 ^ (8 * suc k)
below_more k b m small low =
    let more : 8 * suc k ≡ 8 * k + 8 = omega arith in
    let all : 2 ^ (8 * k + 8) ≡ 2 ^ (8 * k) * 256 = pow-add 2 (8 * k) 8 in
    let few : (b + 1) * 2 ^ (8 * k) ≤ 256 * 2 ^ (8 * k) = mul-le-mul_right (2 ^ (8 * k)) (omega arith) in
    rw (more, all) (omega (arith, few, low))

-- no bits behind the leading ones
pub record IsAddress (k leading n : ℕ) : Type 0 where
  pub fits : n < 2 ^ (8 * k)
  pub zeros : n % 2 ^ (8 * k - leading) ≡ 0

no_product : (a p : ℕ) → 0 < p → a * p ≡ 0 → a ≡ 0
no_product zero p some none = refl
no_product (suc a) p some none = let least : 1 * p ≤ suc a * p = mul-le-mul_right p (omega arith) in absurd (omega (arith, least, none))

zero_mod : (m p : ℕ) → m ≡ 0 → 0 < p → m % p ≡ 0
zero_mod m p none some = rw none (small_mod 0 p some)

-- the bits behind the leading ones are zero in the first byte and in the others
short_split : (k leading n : ℕ) → leading < 8 → n % 2 ^ (8 * suc k - leading) ≡ (n / 2 ^ (8 * k) % 2 ^ (8 - min leading 8)) * 2 ^ (8 * k) + n % 2 ^ (8 * k)
short_split k leading n short =
    let e : 8 * suc k - leading ≡ (8 - min leading 8) + 8 * k = omega arith in
    subst (λ (h : ℕ). n % 2 ^ h ≡ (n / 2 ^ (8 * k) % 2 ^ (8 - min leading 8)) * 2 ^ (8 * k) + n % 2 ^ (8 * k)) (sym e) (mod-pow-add n (8 - min leading 8) (8 * k))

long_split : (k leading n : ℕ) → 8 ≤ leading → n % 2 ^ (8 * k) % 2 ^ (8 * k - (leading - 8)) ≡ n % 2 ^ (8 * suc k - leading)
long_split k leading n long =
    let h = 8 * k - (leading - 8) in
    let e : 8 * suc k - leading ≡ h = omega arith in
    let f : (8 * k - h) + h ≡ 8 * k = omega arith in
    rw e (subst (λ (w : ℕ). n % 2 ^ w % 2 ^ h ≡ n % 2 ^ h) f (mod-mod-pow n (8 * k - h) h))

abbrev IsSplit : ℕ → ℕ → ℕ → Type 0
IsSplit k leading n = (n / 2 ^ (8 * k) % 2 ^ (8 - min leading 8) ≡ 0) × (n % 2 ^ (8 * k) % 2 ^ (8 * k - (leading - 8)) ≡ 0)

short_from : (k leading n : ℕ) → leading < 8 → n % 2 ^ (8 * suc k - leading) ≡ 0 → IsSplit k leading n
short_from k leading n short none =
    let is = short_split k leading n short in
    let p : 0 < 2 ^ (8 * k) = pow_pos (8 * k) in
    let high : (n / 2 ^ (8 * k) % 2 ^ (8 - min leading 8)) * 2 ^ (8 * k) ≡ 0 = omega (arith, is, none) in
    let low : n % 2 ^ (8 * k) ≡ 0 = omega (arith, is, none) in
    (no_product _ _ p high, zero_mod _ _ low (pow_pos (8 * k - (leading - 8))))

long_from : (k leading n : ℕ) → 8 ≤ leading → n % 2 ^ (8 * suc k - leading) ≡ 0 → IsSplit k leading n
long_from k leading n long none =
    let e : 8 - min leading 8 ≡ 0 = omega arith in
    (subst (λ (h : ℕ). n / 2 ^ (8 * k) % 2 ^ h ≡ 0) (sym e) (omega arith), long_split k leading n long ∙ none)

pub split_from : (k leading n : ℕ) → n % 2 ^ (8 * suc k - leading) ≡ 0 → IsSplit k leading n
split_from k leading n none = elim (cases_lt leading 8) as (λ _. IsSplit k leading n) [ inl short ↦ short_from k leading n short none | inr long ↦ long_from k leading n long none ]

short_to : (k leading n : ℕ) → leading < 8 → IsSplit k leading n → n % 2 ^ (8 * suc k - leading) ≡ 0
short_to k leading n short split =
    let e : 8 * k - (leading - 8) ≡ 8 * k = omega arith in
    let low : n % 2 ^ (8 * k) ≡ 0 = sym (small_mod (n % 2 ^ (8 * k)) (2 ^ (8 * k)) (mod-lt n (pow_pos (8 * k)))) ∙ subst (λ (h : ℕ). n % 2 ^ (8 * k) % 2 ^ h ≡ 0) e split.1 in
    short_split k leading n short ∙ rw (split.0, low) (omega arith)

pub split_to : (k leading n : ℕ) → IsSplit k leading n → n % 2 ^ (8 * suc k - leading) ≡ 0
split_to k leading n split = elim (cases_lt leading 8) as (λ _. n % 2 ^ (8 * suc k - leading) ≡ 0) [ inl short ↦ short_to k leading n short split | inr long ↦ sym (long_split k leading n long) ∙ split.1 ]

-- ---- reading

leads_zero : (leading b : ℕ) → leads leading b ≡ true → b % 2 ^ (8 - min leading 8) ≡ 0
leads_zero leading b passes = grind (arith, nat_tests)

zero_leads : (leading b : ℕ) → b % 2 ^ (8 - min leading 8) ≡ 0 → leads leading b ≡ true
zero_leads leading b none = eq-eqb _ _ none

no_bytes : (leading end : ℕ) (bytes : List ℕ) → Sound (IsAddress 0 leading) (bytes_high_first 0) (address_at 0 leading) end bytes (address_at 0 leading end bytes)
unfolding address_at
no_bytes leading end bytes = (record { fits = omega arith; zeros = zero_mod 0 _ refl (pow_pos (8 * 0 - leading)) }, refl)

abbrev shifted : ℕ → ℕ × ℕ → ℕ
shifted n p = p.0 * 256 ^ n + p.1

abbrev Halves : ℕ → ℕ → ℕ × ℕ → Type 0
Halves k leading p = ((leads leading p.0 ≡ true) × IsByte p.0) × IsAddress k (leading - 8) p.1

shift_is : (k : ℕ) (p : ℕ × ℕ) → shifted k p ≡ p.0 * 2 ^ (8 * k) + p.1
shift_is k p = ap (λ (w : ℕ). p.0 * w + p.1) (pow_256 k)

joins : (k leading : ℕ) (p : ℕ × ℕ) → Halves k leading p → IsAddress (suc k) leading (shifted k p) × (bytes_high_first (suc k) (shifted k p) ≡ p.0 ∷ bytes_high_first k p.1)
joins k leading p halves =
    let low = halves.1.fits in
    let small : p.0 < 256 = omega (arith, halves.0.1) in
    let w = 2 ^ (8 * k) in
    let n = p.0 * w + p.1 in
    let top : n / w ≡ p.0 = div-mul-add p.0 w p.1 low in
    let rest : n % w ≡ p.1 = mod-mul-add p.0 w p.1 low in
    let first : n / w % 2 ^ (8 - min leading 8) ≡ 0 = rw top (leads_zero leading p.0 halves.0.0) in
    let others : n % w % 2 ^ (8 * k - (leading - 8)) ≡ 0 = rw rest halves.1.zeros in
    subst (λ (x : ℕ). IsAddress (suc k) leading x × (bytes_high_first (suc k) x ≡ p.0 ∷ bytes_high_first k p.1)) (sym (shift_is k p))
    (record { fits = below_more k p.0 p.1 small low; zeros = split_to k leading n (first, others) }, high_byte k p.0 p.1 small low)

halves_of : (k leading n : ℕ) → IsAddress (suc k) leading n → (p : ℕ × ℕ) × Halves k leading p × (shifted k p ≡ n)
halves_of k leading n is =
    let w = 2 ^ (8 * k) in
    let some : 0 < w = pow_pos (8 * k) in
    let more : 8 * suc k ≡ 8 * k + 8 = omega arith in
    let all : 2 ^ (8 * suc k) ≡ 256 * w = rw more (pow-add 2 (8 * k) 8 ∙ omega arith) in
    let split = split_from k leading n is.zeros in
    let small : n / w < 256 = div_below n w 256 some (omega (arith, all, is.fits)) in (
      (n / w, n % w),
      ((zero_leads leading (n / w) split.0, omega (arith, small)), record { fits = mod-lt n some; zeros = split.1 }),
      shift_is k (n / w, n % w) ∙ omega arith,
    )

pub address_reader : (k leading : ℕ) → IsReader (IsAddress k leading) (bytes_high_first k) (address_at k leading)
unfolding address_at
address_reader zero leading = record {
  whole = λ end n rest is. let none : n ≡ 0 = omega (arith, is.fits) in rw none refl;
  sound = λ end bytes fits. no_bytes leading end bytes;
}
address_reader (suc k) leading =
    made_reader (Halves k leading) (λ p. byte p.0 ++ bytes_high_first k p.1) (both_at (byte_at (leads leading)) (address_at k (leading - 8)))
    (IsAddress (suc k) leading) (bytes_high_first (suc k)) (shifted k)
    (joins k leading) (halves_of k leading)
    (pair_reader (λ b. (leads leading b ≡ true) × IsByte b) byte (byte_at (leads leading)) (λ _. IsAddress k (leading - 8)) (λ _. bytes_high_first k) (λ _. address_at k (leading - 8))
    (byte_reader (leads leading) 0 (zero_leads leading 0 (zero_mod 0 _ refl (pow_pos (8 - min leading 8)))) (omega arith))
    (λ b holds. address_reader k (leading - 8)))

-- ---- one byte more

zeros_far : (c leading number b : ℕ) → 8 * c + 8 ≤ leading → (number * 256 + b) % 2 ^ (8 * (c + 1) - leading) ≡ 0
zeros_far c leading number b far = let e : 8 * (c + 1) - leading ≡ 0 = omega arith in rw e (omega arith)

zeros_past : (c leading number b : ℕ) → leading ≤ 8 * c → number % 2 ^ (8 * c - leading) ≡ 0 → b ≡ 0 → (number * 256 + b) % 2 ^ (8 * (c + 1) - leading) ≡ 0
zeros_past c leading number b past none last =
    let n = number * 256 + b in
    let e : 8 * (c + 1) - leading ≡ (8 * c - leading) + 8 = omega arith in
    let top : n / 2 ^ 8 ≡ number = omega (arith, last) in
    let low : n % 2 ^ 8 ≡ 0 = omega (arith, last) in
    rw e (mod-pow-add n (8 * c - leading) 8 ∙ rw (top, low, none) refl)

zeros_here : (number b h : ℕ) → h ≤ 8 → b % 2 ^ h ≡ 0 → (number * 256 + b) % 2 ^ h ≡ 0
zeros_here number b h few none =
    let e : 8 ≡ (8 - h) + h = omega arith in
    let split : 2 ^ ((8 - h) + h) ≡ 2 ^ (8 - h) * 2 ^ h = pow-add 2 (8 - h) h in
    let all : 256 ≡ 2 ^ (8 - h) * 2 ^ h = ap (λ (k : ℕ). 2 ^ k) e ∙ split in
    let same : number * 256 ≡ (number * 2 ^ (8 - h)) * 2 ^ h = ap (λ (w : ℕ). number * w) all ∙ sym (mul_assoc number (2 ^ (8 - h)) (2 ^ h)) in
    ap (λ (w : ℕ). (w + b) % 2 ^ h) same ∙ mul-add-mod_self_right (number * 2 ^ (8 - h)) (2 ^ h) b ∙ none

pub zeros_more : (c leading number b : ℕ) → number % 2 ^ (8 * c - leading) ≡ 0 → b % 2 ^ (8 - min (leading - 8 * c) 8) ≡ 0 → b < 256 → (number * 256 + b) % 2 ^ (8 * (c + 1) - leading) ≡ 0
zeros_more c leading number b none first small =
    elim (cases_lt leading (8 * c + 1)) as (λ _. (number * 256 + b) % 2 ^ (8 * (c + 1) - leading) ≡ 0) [
      | inl past ↦
          let e : 8 - min (leading - 8 * c) 8 ≡ 8 = omega arith in
          let last : b % 2 ^ 8 ≡ 0 = subst (λ (h : ℕ). b % 2 ^ h ≡ 0) e first in
          zeros_past c leading number b (omega arith) none (omega (arith, last))
      | inr behind ↦ elim (cases_lt leading (8 * c + 8)) as (λ _. (number * 256 + b) % 2 ^ (8 * (c + 1) - leading) ≡ 0) [
        | inl here ↦
            let e : 8 - min (leading - 8 * c) 8 ≡ 8 * (c + 1) - leading = omega arith in
            zeros_here number b (8 * (c + 1) - leading) (omega arith) (subst (λ (h : ℕ). b % 2 ^ h ≡ 0) e first)
        | inr far ↦ zeros_far c leading number b far
      ]
    ]

-- ---- the lowest address of a prefix

lowest_of : (family : Family) (bits n : ℕ) → bits ≤ width family → n < 256 ^ (16 - zeros family) → n % 2 ^ (8 * (16 - zeros family) - bits) ≡ 0 → IsPrefix (record { family = family; number = n; length = bits })
lowest_of V4 bits n few fits none = record { length = few; number = fits; host_bits = none }
lowest_of V6 bits n few fits none = record { length = few; number = fits; host_bits = none }

pub lowest_is : (family : Family) (bits left : ℕ) (read : Result ℕ EntryFault) → left ≡ zeros family → bits ≤ width family → IfOk read (λ x. x < 256 ^ (16 - left)) → IfOk read (λ x. x % 2 ^ (8 * (16 - left) - bits) ≡ 0)
    → IfOk read (λ x. IsPrefix (record { family = family; number = x; length = bits }))
lowest_is family bits left (Ok n) is few fits none =
    lowest_of family bits n few (subst (λ (z : ℕ). n < 256 ^ (16 - z)) is fits) (subst (λ (z : ℕ). n % 2 ^ (8 * (16 - z) - bits) ≡ 0) is none)
lowest_is family bits left (Err fault) is few fits none = tt
