-- How many bytes options and messages have.
use Rattle.std.specs.Prelude.{◌⊎◌}
use Rattle.std.proofs.Common.{◌≡◌, ℕ, zero, suc, ◌+◌, ◌-◌, ◌*◌, ◌≤◌, ◌<◌, true, false, List, [], ◌∷◌, ◌++◌, length, inl, inr, refl, sym, ap, subst, ◌∙◌, append_assoc, length-append, arith}
use Rattle.std.proofs.lemmas.Bool.{cases_lt, cases_Bool, lt-ltb, le-ltb, leb-true, leb-false, ltb-true}
use Rattle.coap_message.specs.Message.{CoapOption, AreOptions, extension, option_bytes, options_bytes, last_number}
use Rattle.coap_block.specs.declared.spelling.Which.{Which}
use Rattle.coap_block.specs.declared.spelling.Which.TheVariants as which
use Rattle.coap_block.specs.Spelling.{is_among, among}

-- the first of the options that are still to be written fits
pub first_fits : (filled text : List ℕ) (previous most : ℕ) (o : CoapOption) (os chosen : List CoapOption) → chosen ≡ o ∷ os → filled ++ options_bytes previous chosen ≡ text → length text ≤ most
    → length filled + length (option_bytes previous o) ≤ most
first_fits filled text previous most o os chosen are is fits =
    let whole : length filled + length (options_bytes previous (o ∷ os)) ≡ length text
    = sym (length-append filled (options_bytes previous (o ∷ os))) ∙ ap (λ all. length (filled ++ options_bytes previous all)) (sym are) ∙ ap length is in
    let parts = length-append (option_bytes previous o) (options_bytes o.number os) in
    omega (arith, whole, parts)

pub together_fit : (filled text : List ℕ) (most : ℕ) → length filled + length text ≤ most → length (filled ++ text) ≤ most
together_fit filled text most fits = omega (arith, length-append filled text, fits)

-- ---- options that are left out make none longer

extension_size : (n : ℕ) → (n < 13) × (length (extension n) ≡ 0) ⊎ ((13 ≤ n) × (n < 269) × (length (extension n) ≡ 1) ⊎ (269 ≤ n) × (length (extension n) ≡ 2))
extension_size n = elim (cases_lt n 13) [
  | inl below ↦ let e = lt-ltb n 13 below in inl (below, rw e refl)
  | inr above ↦ let e = le-ltb n 13 above in elim (cases_lt n 269) [
    | inl below ↦ let f = lt-ltb n 269 below in inr (inl (above, below, rw (e, f) refl))
    | inr far ↦ let f = le-ltb n 269 far in inr (inr (far, rw (e, f) refl))
  ]
]

extension_most : (n : ℕ) → length (extension n) ≤ 2
extension_most n = elim (extension_size n) [ inl a ↦ omega (arith, a.1) | inr b ↦ elim b [ inl a ↦ omega (arith, a.2) | inr a ↦ omega (arith, a.1) ] ]

-- a greater delta takes more bytes, but no more than the two that it is the sum of, and their first byte
extension_sum : (a b : ℕ) → length (extension (a + b)) ≤ 1 + length (extension a) + length (extension b)
extension_sum a b = elim (extension_size (a + b)) [
  | inl s ↦ omega (arith, s.1)
  | inr t ↦ elim t [
    | inl s ↦ omega (arith, s.2)
    | inr s ↦ elim (extension_size a) [
      | inl x ↦ elim (extension_size b) [ inl y ↦ absurd (omega (arith, s.0, x.0, y.0)) | inr z ↦ elim z [ inl y ↦ omega (arith, s.1, y.2) | inr y ↦ omega (arith, s.1, y.1) ] ]
      | inr x ↦ elim x [ inl y ↦ omega (arith, s.1, y.2) | inr y ↦ omega (arith, s.1, y.1) ]
    ]
  ]
]

-- what a gap between two options may add
abbrev gap : ℕ → ℕ
gap zero = 0
gap (suc n) = 1 + length (extension (suc n))

gap_alone : (b : ℕ) → gap b ≤ 1 + length (extension b)
gap_alone zero = omega arith
gap_alone (suc b) = omega arith

gap_two : (a b : ℕ) → gap (suc a + b) ≤ 2 + length (extension (suc a)) + length (extension b)
gap_two a b =
    let e : suc a + b ≡ suc (a + b) = omega arith in
    subst (λ n. gap n ≤ 2 + length (extension (suc a)) + length (extension b)) (sym e) (omega (arith, extension_sum (suc a) b, ap (λ n. length (extension n)) e))

gap_more : (a b : ℕ) → gap (a + b) ≤ gap a + 1 + length (extension b)
gap_more zero b =
    let e : 0 + b ≡ b = omega arith in
    subst (λ n. gap n ≤ 1 + length (extension b)) (sym e) (gap_alone b)
gap_more (suc a) b = omega (arith, gap_two a b)

gap_over : (a b : ℕ) → length (extension (a + b)) ≤ gap a + length (extension b)
gap_over zero b =
    let e : 0 + b ≡ b = omega arith in
    omega (arith, ap (λ n. length (extension n)) e)
gap_over (suc a) b = omega (arith, extension_sum (suc a) b)

option_size : (previous : ℕ) (o : CoapOption) → length (option_bytes previous o) ≡ 1 + length (extension (o.number - previous)) + length (extension (length o.value)) + length o.value
option_size previous o =
    omega (arith, length-append (extension (o.number - previous) ++ extension (length o.value)) o.value, length-append (extension (o.number - previous)) (extension (length o.value)))

pub among_none : (kind : Which) (o : CoapOption) (os : List CoapOption) → is_among kind o.number ≡ false → among kind (o ∷ os) ≡ among kind os
among_none kind o os not_it = rw not_it refl

pub among_more : (kind : Which) (o : CoapOption) (os : List CoapOption) → is_among kind o.number ≡ true → among kind (o ∷ os) ≡ o ∷ among kind os
among_more kind o os is_it = rw is_it refl

shorter : (kind : Which) (p q : ℕ) (os : List CoapOption) → p ≤ q → AreOptions q os → length (options_bytes p (among kind os)) ≤ gap (q - p) + length (options_bytes q os)
shorter kind p q [] le are = omega arith
shorter kind p q (o ∷ os) le are =
    let whole = length-append (option_bytes q o) (options_bytes o.number os) in
    let size = option_size q o in
    let sum : o.number - p ≡ (q - p) + (o.number - q) = omega (arith, le, are.0) in
    elim (cases_Bool (is_among kind o.number)) [
      | inl is_it ↦
          let rest = shorter kind o.number o.number os (omega arith) are.3 in
          let same : o.number - o.number ≡ 0 = omega arith in
          let none : gap (o.number - o.number) ≡ 0 = ap gap same in
          let parts = length-append (option_bytes p o) (options_bytes o.number (among kind os)) in
          let mine = option_size p o in
          let over = subst (λ n. length (extension n) ≤ gap (q - p) + length (extension (o.number - q))) (sym sum) (gap_over (q - p) (o.number - q)) in
          subst (λ chosen. length (options_bytes p chosen) ≤ gap (q - p) + length (options_bytes q (o ∷ os))) (sym (among_more kind o os is_it)) (omega (arith, rest, none, parts, mine, over, whole, size))
      | inr not_it ↦
          let rest = shorter kind p o.number os (omega (arith, le, are.0)) are.3 in
          let more = subst (λ n. gap n ≤ gap (q - p) + 1 + length (extension (o.number - q))) (sym sum) (gap_more (q - p) (o.number - q)) in
          subst (λ chosen. length (options_bytes p chosen) ≤ gap (q - p) + length (options_bytes q (o ∷ os))) (sym (among_none kind o os not_it)) (omega (arith, rest, more, whole, size))
    ]

pub no_longer : (kind : Which) (os : List CoapOption) → AreOptions 0 os → length (options_bytes 0 (among kind os)) ≤ length (options_bytes 0 os)
no_longer kind os are =
    let same : 0 - 0 ≡ 0 = omega arith in
    let none : gap (0 - 0) ≡ 0 = ap gap same in
    omega (arith, shorter kind 0 0 os (omega arith) are, none)

-- ---- what is chosen are options again

pub among_are : (kind : Which) (p q : ℕ) (os : List CoapOption) → p ≤ q → AreOptions q os → AreOptions p (among kind os)
among_are kind p q [] le are = tt
among_are kind p q (o ∷ os) le are = elim (cases_Bool (is_among kind o.number)) [
  | inl is_it ↦ subst (AreOptions p) (sym (among_more kind o os is_it)) (omega (arith, le, are.0), are.1, are.2, among_are kind o.number o.number os (omega arith) are.3)
  | inr not_it ↦ subst (AreOptions p) (sym (among_none kind o os not_it)) (among_are kind p o.number os (omega (arith, le, are.0)) are.3)
]

-- ---- the options in front of a Block2 and those behind it

pub options_append : (previous : ℕ) (front back : List CoapOption) → options_bytes previous (front ++ back) ≡ options_bytes previous front ++ options_bytes (last_number previous front) back
options_append previous [] back = refl
options_append previous (o ∷ front) back =
    ap (λ others. option_bytes previous o ++ others) (options_append o.number front back) ∙ sym (append_assoc (option_bytes previous o) (options_bytes o.number front) (options_bytes (last_number o.number front) back))

pub last_front : (previous : ℕ) (os : List CoapOption) → previous ≤ 23 → last_number previous (among which.UpToBlock os) ≤ 23
last_front previous [] le = le
last_front previous (o ∷ os) le = elim (cases_Bool (is_among which.UpToBlock o.number)) [
  | inl is_it ↦ subst (λ chosen. last_number previous chosen ≤ 23) (sym (among_more which.UpToBlock o os is_it)) (last_front o.number os (leb-true o.number 23 is_it))
  | inr not_it ↦ subst (λ chosen. last_number previous chosen ≤ 23) (sym (among_none which.UpToBlock o os not_it)) (last_front previous os le)
]

pub behind_are : (previous : ℕ) (os : List CoapOption) → AreOptions previous os → AreOptions 23 (among which.BehindBlock os)
behind_are previous [] are = tt
behind_are previous (o ∷ os) are = elim (cases_Bool (is_among which.BehindBlock o.number)) [
  | inl is_it ↦ subst (AreOptions 23) (sym (among_more which.BehindBlock o os is_it))
      (omega (arith, ltb-true 23 o.number is_it), are.1, are.2, among_are which.BehindBlock o.number o.number os (omega arith) are.3)
  | inr not_it ↦ subst (AreOptions 23) (sym (among_none which.BehindBlock o os not_it)) (behind_are o.number os are.3)
]

pub parts_size : (p r q : ℕ) (os : List CoapOption) → length (options_bytes p (among which.UpToBlock os)) + length (options_bytes r (among which.BehindBlock os)) ≤ 3 * length (options_bytes q os)
parts_size p r q [] = omega arith
parts_size p r q (o ∷ os) =
    let whole = length-append (option_bytes q o) (options_bytes o.number os) in
    let size = option_size q o in
    elim (cases_Bool (is_among which.UpToBlock o.number)) [
      | inl is_it ↦
          let rest = parts_size o.number r o.number os in
          let none : is_among which.BehindBlock o.number ≡ false = le-ltb 23 o.number (leb-true o.number 23 is_it) in
          let parts = length-append (option_bytes p o) (options_bytes o.number (among which.UpToBlock os)) in
          let mine = option_size p o in
          let most = extension_most (o.number - p) in
          subst (λ chosen. length (options_bytes p chosen) + length (options_bytes r (among which.BehindBlock (o ∷ os))) ≤ 3 * length (options_bytes q (o ∷ os))) (sym (among_more which.UpToBlock o os is_it))
          (subst (λ chosen. length (options_bytes p (o ∷ among which.UpToBlock os)) + length (options_bytes r chosen) ≤ 3 * length (options_bytes q (o ∷ os))) (sym (among_none which.BehindBlock o os none))
          (omega (arith, rest, parts, mine, most, whole, size)))
      | inr not_it ↦
          let rest = parts_size p o.number o.number os in
          let more : is_among which.BehindBlock o.number ≡ true = lt-ltb 23 o.number (leb-false o.number 23 not_it) in
          let parts = length-append (option_bytes r o) (options_bytes o.number (among which.BehindBlock os)) in
          let mine = option_size r o in
          let most = extension_most (o.number - r) in
          subst (λ chosen. length (options_bytes p chosen) + length (options_bytes r (among which.BehindBlock (o ∷ os))) ≤ 3 * length (options_bytes q (o ∷ os))) (sym (among_none which.UpToBlock o os not_it))
          (subst (λ chosen. length (options_bytes p (among which.UpToBlock os)) + length (options_bytes r chosen) ≤ 3 * length (options_bytes q (o ∷ os))) (sym (among_more which.BehindBlock o os more))
          (omega (arith, rest, parts, mine, most, whole, size)))
    ]

-- a Block2 has six bytes at most
pub block_option_size : (previous : ℕ) (value : List ℕ) → length value ≤ 3 → length (option_bytes previous (record { number = 23; value = value })) ≤ 6
block_option_size previous value le =
    elim (extension_size (length value)) [
      | inl s ↦ omega (arith, option_size previous (record { number = 23; value = value }), extension_most (23 - previous), s.1, le)
      | inr t ↦ elim t [ inl s ↦ absurd (omega (arith, s.0, le)) | inr s ↦ absurd (omega (arith, s.0, le)) ]
    ]
