-- A delta or a length that is read is the one that was written, and what was written is read again.
use Rattle.std.proofs.Common.{◌≡◌, ℕ, zero, suc, ◌+◌, ◌-◌, ◌<◌, ◌≤◌, true, false, cond, ltb, eqb, List, [], ◌∷◌, ◌++◌, length, Some, None, refl, sym, ap, subst, ◌∙◌, arith, inl, inr}
use Rattle.std.specs.Prelude.{◌⊎◌}
use Rattle.std.specs.Int.{w16, from_be_bytes, to_be_bytes}
use Rattle.std.proofs.lemmas.Bool.{cases_lt, ltb-true, lt-ltb, le-ltb, eqb-true}
use Rattle.std.proofs.lemmas.Nat.{be_bytes_2, from_be_bytes-to_be_bytes_2}
use Rattle.coap_message.specs.Message.{nibble, extension}
use Rattle.coap_message.specs.MessageReading.{one_byte, two_bytes, extended_at}
use Rattle.coap_message.proofs.Steps.{IsBytes, IsBytes-rest, chosen, some, some_is}

abbrev pub HowExtended : ℕ → List ℕ → ℕ × List ℕ → Type 0
HowExtended n bytes x = ((n < 13) × (x ≡ (n, bytes))) ⊎ (((n ≡ 13) × (one_byte bytes ≡ Some x)) ⊎ ((n ≡ 14) × (two_bytes bytes ≡ Some x)))

how_extended : (n : ℕ) (bytes : List ℕ) (x : ℕ × List ℕ) → extended_at n bytes ≡ Some x → HowExtended n bytes x
unfolding extended_at
how_extended n bytes x e =
    elim (chosen (ltb n 13) (Some (n, bytes)) (cond (eqb n 13) (one_byte bytes) (cond (eqb n 14) (two_bytes bytes) None)) (Some x) e) [
      | inl p ↦ inl (ltb-true n 13 p.0, sym (some_is (n, bytes) x p.1))
      | inr p ↦ elim (chosen (eqb n 13) (one_byte bytes) (cond (eqb n 14) (two_bytes bytes) None) (Some x) p.1) [
        | inl q ↦ inr (inl (eqb-true n 13 q.0, q.1))
        | inr q ↦ elim (chosen (eqb n 14) (two_bytes bytes) None (Some x) q.1) [
          | inl r ↦ inr (inr (eqb-true n 14 r.0, r.1))
          | inr r ↦ absurd (let e : None ≡ some x = r.1 in cc)
        ]
      ]
    ]

one_byte-is : (bytes : List ℕ) (x : ℕ × List ℕ) → one_byte bytes ≡ Some x → (b : ℕ) × (rest : List ℕ) × (bytes ≡ b ∷ rest) × (x ≡ (b + 13, rest))
one_byte-is [] x e = absurd cc
one_byte-is (b ∷ rest) x e = (b, rest, refl, sym (some_is (b + 13, rest) x e))

two_bytes-is : (bytes : List ℕ) (x : ℕ × List ℕ) → two_bytes bytes ≡ Some x → (a : ℕ) × (b : ℕ) × (rest : List ℕ) × (bytes ≡ a ∷ b ∷ rest) × (x ≡ (from_be_bytes w16 (a ∷ b ∷ []) + 269, rest))
two_bytes-is [] x e = absurd cc
two_bytes-is (a ∷ []) x e = absurd cc
two_bytes-is (a ∷ b ∷ rest) x e = (a, b, rest, refl, sym (some_is (from_be_bytes w16 (a ∷ b ∷ []) + 269, rest) x e))

pub extended_shorter : (n : ℕ) (bytes : List ℕ) (x : ℕ × List ℕ) → extended_at n bytes ≡ Some x → length x.1 ≤ length bytes
extended_shorter n bytes x e =
    elim (how_extended n bytes x e) [
      | inl p ↦ omega (arith, ap (λ (y : ℕ × List ℕ). length y.1) p.1)
      | inr (inl p) ↦ let q = one_byte-is bytes x p.1 in omega (arith, ap (λ (y : List ℕ). length y) q.2, ap (λ (y : ℕ × List ℕ). length y.1) q.3)
      | inr (inr p) ↦ let q = two_bytes-is bytes x p.1 in omega (arith, ap (λ (y : List ℕ). length y) q.3, ap (λ (y : ℕ × List ℕ). length y.1) q.4)
    ]

pub record Extended (n : ℕ) (bytes : List ℕ) (x : ℕ × List ℕ) : Type 0 where
  pub nibble_is : nibble x.0 ≡ n
  pub parts : bytes ≡ extension x.0 ++ x.1
  pub bound : x.0 ≤ 65804
  pub rest_fits : IsBytes x.1

by_none : (n : ℕ) (bytes : List ℕ) → IsBytes bytes → n < 13 → Extended n bytes (n, bytes)
by_none n bytes fits lt =
    let t : ltb n 13 ≡ true = lt-ltb n 13 lt in
    record { nibble_is = rw t refl; parts = rw t refl; bound = omega arith; rest_fits = fits }

by_one : (b : ℕ) (rest : List ℕ) → IsBytes (b ∷ rest) → Extended 13 (b ∷ rest) (b + 13, rest)
by_one b rest fits =
    let first : b < 256 = fits 0 in
    let t : ltb (b + 13) 13 ≡ false = le-ltb (b + 13) 13 (omega arith) in
    let u : ltb (b + 13) 269 ≡ true = lt-ltb (b + 13) 269 (omega arith) in
    let same : b + 13 - 13 ≡ b = omega arith in
    record { nibble_is = rw (t, u) refl; parts = rw (t, u, same) refl; bound = omega arith; rest_fits = IsBytes-rest b rest fits }

pub two_fit : (a b : ℕ) → a < 256 → b < 256 → IsBytes (a ∷ b ∷ [])
two_fit a b first second zero = first
two_fit a b first second (suc zero) = second
two_fit a b first second (suc (suc i)) = omega arith

along : (n m : ℕ) (bytes made : List ℕ) (x y : ℕ × List ℕ) → n ≡ m → bytes ≡ made → x ≡ y → IsBytes bytes → (IsBytes made → Extended m made y) → Extended n bytes x
along n m bytes made x y e f g fits by =
    subst (λ (k : ℕ). Extended k bytes x) (sym e) (subst (λ (z : List ℕ). Extended m z x) (sym f) (subst (λ (z : ℕ × List ℕ). Extended m made z) (sym g) (by (subst (λ (z : List ℕ). IsBytes z) f fits))))

two_long : (n : ℕ) → nibble (n + 269) ≡ 14
two_long n =
    let t : ltb (n + 269) 13 ≡ false = le-ltb (n + 269) 13 (omega arith) in
    let u : ltb (n + 269) 269 ≡ false = le-ltb (n + 269) 269 (omega arith) in
    rw (t, u) refl

two_spelled : (n : ℕ) → extension (n + 269) ≡ to_be_bytes w16 n
two_spelled n =
    let t : ltb (n + 269) 13 ≡ false = le-ltb (n + 269) 13 (omega arith) in
    let u : ltb (n + 269) 269 ≡ false = le-ltb (n + 269) 269 (omega arith) in
    let same : n + 269 - 269 ≡ n = omega arith in
    rw (t, u) (ap (to_be_bytes w16) same)

by_two : (a b : ℕ) (rest : List ℕ) → IsBytes (a ∷ b ∷ rest) → Extended 14 (a ∷ b ∷ rest) (from_be_bytes w16 (a ∷ b ∷ []) + 269, rest)
by_two a b rest fits =
    let first : a < 256 = fits 0 in
    let second : b < 256 = fits 1 in
    let n = from_be_bytes w16 (a ∷ b ∷ []) in
    let pair : IsBytes (a ∷ b ∷ []) = two_fit a b first second in
    let back : to_be_bytes w16 n ≡ a ∷ b ∷ [] = be_bytes_2 (a ∷ b ∷ []) n refl pair refl in
    record {
      nibble_is = two_long n;
      parts = ap (λ (y : List ℕ). y ++ rest) (sym (two_spelled n ∙ back));
      bound = omega arith;
      rest_fits = λ i. fits (suc (suc i));
    }

pub extended_takes : (n : ℕ) (bytes : List ℕ) (x : ℕ × List ℕ) → IsBytes bytes → extended_at n bytes ≡ Some x → Extended n bytes x
extended_takes n bytes x fits e =
    elim (how_extended n bytes x e) [
      | inl p ↦ subst (λ (y : ℕ × List ℕ). Extended n bytes y) (sym p.1) (by_none n bytes fits p.0)
      | inr (inl p) ↦ let q = one_byte-is bytes x p.1 in along n 13 bytes (q.0 ∷ q.1) x (q.0 + 13, q.1) p.0 q.2 q.3 fits (by_one q.0 q.1)
      | inr (inr p) ↦ let q = two_bytes-is bytes x p.1 in along n 14 bytes (q.0 ∷ q.1 ∷ q.2) x (from_be_bytes w16 (q.0 ∷ q.1 ∷ []) + 269, q.2) p.0 q.3 q.4 fits (by_two q.0 q.1 q.2)
    ]

pub extended_again : (v : ℕ) (rest : List ℕ) → v ≤ 65804 → extended_at (nibble v) (extension v ++ rest) ≡ Some (v, rest)
unfolding extended_at
extended_again v rest le =
    elim (cases_lt v 13) [
      | inl lt ↦ let t : ltb v 13 ≡ true = lt-ltb v 13 lt in rw (t, t) refl
      | inr ge ↦ elim (cases_lt v 269) [
        | inl lt ↦
            let t : ltb v 13 ≡ false = le-ltb v 13 ge in
            let u : ltb v 269 ≡ true = lt-ltb v 269 lt in
            let same : v - 13 + 13 ≡ v = omega arith in
            rw (t, u) (ap (λ (k : ℕ). some (k, rest)) same)
        | inr high ↦
            let t : ltb v 13 ≡ false = le-ltb v 13 ge in
            let u : ltb v 269 ≡ false = le-ltb v 269 high in
            let back : from_be_bytes w16 (to_be_bytes w16 (v - 269)) ≡ v - 269 = from_be_bytes-to_be_bytes_2 (v - 269) (omega arith) in
            let same : from_be_bytes w16 (to_be_bytes w16 (v - 269)) + 269 ≡ v = omega (arith, back) in
            rw (t, u) (ap (λ (k : ℕ). some (k, rest)) same)
      ]
    ]
