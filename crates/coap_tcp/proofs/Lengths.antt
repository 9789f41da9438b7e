-- The length in front of a frame, read and written.
use Rattle.std.proofs.Common.{◌≡◌, ℕ, ◌+◌, ◌<◌, ◌≤◌, Bool, true, false, cond, ltb, eqb, List, [], ◌∷◌, ◌++◌, length, Option, Some, None, refl, ap, arith, inl, inr}
use Rattle.std.specs.Int.{w16, w32, from_be_bytes}
use Rattle.std.proofs.lemmas.Bool.{cases_lt, lt-ltb, le-ltb, ne_eqb}
use Rattle.coap_message.specs.Message.{nibble, extension}
use Rattle.coap_message.specs.MessageReading.{one_byte, two_bytes, extended_at}
use Rattle.coap_message.proofs.Steps.{some_is}
use Rattle.coap_message.proofs.Extended.{extended_again}
use Rattle.coap_tcp.specs.FrameReading.{four_bytes, length_at}

-- what was read, with more behind
abbrev then_more : ℕ × List ℕ → List ℕ → Option (ℕ × List ℕ)
then_more x more = Some (x.0, x.1 ++ more)

one_more : (bytes more : List ℕ) (x : ℕ × List ℕ) → one_byte bytes ≡ Some x → one_byte (bytes ++ more) ≡ then_more x more
one_more [] more x e = absurd cc
one_more (b ∷ bytes) more x e = ap (λ (y : ℕ × List ℕ). then_more y more) (some_is (b + 13, bytes) x e)

two_more : (bytes more : List ℕ) (x : ℕ × List ℕ) → two_bytes bytes ≡ Some x → two_bytes (bytes ++ more) ≡ then_more x more
two_more [] more x e = absurd cc
two_more (a ∷ []) more x e = absurd cc
two_more (a ∷ b ∷ bytes) more x e = ap (λ (y : ℕ × List ℕ). then_more y more) (some_is (from_be_bytes w16 (a ∷ b ∷ []) + 269, bytes) x e)

four_more : (bytes more : List ℕ) (x : ℕ × List ℕ) → four_bytes bytes ≡ Some x → four_bytes (bytes ++ more) ≡ then_more x more
four_more [] more x e = absurd cc
four_more (a ∷ []) more x e = absurd cc
four_more (a ∷ b ∷ []) more x e = absurd cc
four_more (a ∷ b ∷ c ∷ []) more x e = absurd cc
four_more (a ∷ b ∷ c ∷ d ∷ bytes) more x e = ap (λ (y : ℕ × List ℕ). then_more y more) (some_is (from_be_bytes w32 (a ∷ b ∷ c ∷ d ∷ []) + 65805, bytes) x e)

extended_by : (a b c : Bool) (n : ℕ) (bytes more : List ℕ) (x : ℕ × List ℕ) → cond a (Some (n, bytes)) (cond b (one_byte bytes) (cond c (two_bytes bytes) None)) ≡ Some x
    → cond a (Some (n, bytes ++ more)) (cond b (one_byte (bytes ++ more)) (cond c (two_bytes (bytes ++ more)) None)) ≡ then_more x more
extended_by true b c n bytes more x e = ap (λ (y : ℕ × List ℕ). then_more y more) (some_is (n, bytes) x e)
extended_by false true c n bytes more x e = one_more bytes more x e
extended_by false false true n bytes more x e = two_more bytes more x e
extended_by false false false n bytes more x e = absurd cc

extended_more : (n : ℕ) (bytes more : List ℕ) (x : ℕ × List ℕ) → extended_at n bytes ≡ Some x → extended_at n (bytes ++ more) ≡ then_more x more
unfolding extended_at
extended_more n bytes more x e = extended_by (ltb n 13) (eqb n 13) (eqb n 14) n bytes more x e

length_by : (b : Bool) (n : ℕ) (bytes more : List ℕ) (x : ℕ × List ℕ) → cond b (four_bytes bytes) (extended_at n bytes) ≡ Some x → cond b (four_bytes (bytes ++ more)) (extended_at n (bytes ++ more)) ≡ then_more x more
length_by true n bytes more x e = four_more bytes more x e
length_by false n bytes more x e = extended_more n bytes more x e

-- a length stays where bytes follow
pub length_more : (n : ℕ) (bytes more : List ℕ) (x : ℕ × List ℕ) → length_at n bytes ≡ Some x → length_at n (bytes ++ more) ≡ Some (x.0, x.1 ++ more)
unfolding length_at
length_more n bytes more x e = length_by (eqb n 15) n bytes more x e

four_large : (bytes : List ℕ) (x : ℕ × List ℕ) → four_bytes bytes ≡ Some x → 65805 ≤ x.0
four_large [] x e = absurd cc
four_large (a ∷ []) x e = absurd cc
four_large (a ∷ b ∷ []) x e = absurd cc
four_large (a ∷ b ∷ c ∷ []) x e = absurd cc
four_large (a ∷ b ∷ c ∷ d ∷ bytes) x e = omega (arith, ap (λ (y : ℕ × List ℕ). y.0) (some_is (from_be_bytes w32 (a ∷ b ∷ c ∷ d ∷ []) + 65805, bytes) x e))

short_by : (b : Bool) (n : ℕ) (bytes : List ℕ) (x : ℕ × List ℕ) → cond b (four_bytes bytes) (extended_at n bytes) ≡ Some x → x.0 ≤ 4096 → extended_at n bytes ≡ Some x
short_by true n bytes x e le = absurd (omega (arith, four_large bytes x e, le))
short_by false n bytes x e le = e

-- a length that is taken is read as that of an option
pub short_length : (n : ℕ) (bytes : List ℕ) (x : ℕ × List ℕ) → length_at n bytes ≡ Some x → x.0 ≤ 4096 → extended_at n bytes ≡ Some x
unfolding length_at
short_length n bytes x e le = short_by (eqb n 15) n bytes x e le

-- where a length isn't there yet, few bytes are
four_short : (bytes : List ℕ) → four_bytes bytes ≡ None → length bytes < 4
four_short [] e = omega arith
four_short (a ∷ []) e = omega arith
four_short (a ∷ b ∷ []) e = omega arith
four_short (a ∷ b ∷ c ∷ []) e = omega arith
four_short (a ∷ b ∷ c ∷ d ∷ bytes) e = absurd cc

two_short : (bytes : List ℕ) → two_bytes bytes ≡ None → length bytes < 4
two_short [] e = omega arith
two_short (a ∷ []) e = omega arith
two_short (a ∷ b ∷ bytes) e = absurd cc

one_short : (bytes : List ℕ) → one_byte bytes ≡ None → length bytes < 4
one_short [] e = omega arith
one_short (b ∷ bytes) e = absurd cc

-- a nibble is that of one of the four forms
pub which_length : (n : ℕ) → n ≤ 15 → (b c d e : Bool) → eqb n 15 ≡ b → ltb n 13 ≡ c → eqb n 13 ≡ d → eqb n 14 ≡ e → (bytes : List ℕ)
    → cond b (four_bytes bytes) (cond c (Some (n, bytes)) (cond d (one_byte bytes) (cond e (two_bytes bytes) None))) ≡ None → length bytes < 4
which_length n le true c d e p q r s bytes none = four_short bytes none
which_length n le false true d e p q r s bytes none = absurd cc
which_length n le false false true e p q r s bytes none = one_short bytes none
which_length n le false false false true p q r s bytes none = two_short bytes none
which_length n le false false false false p q r s bytes none = absurd (grind (arith, p, q, r, s, le))

pub length_short : (n : ℕ) (bytes : List ℕ) → n ≤ 15 → length_at n bytes ≡ None → length bytes < 4
unfolding length_at extended_at
length_short n bytes le e = which_length n le (eqb n 15) (ltb n 13) (eqb n 13) (eqb n 14) refl refl refl refl bytes e

pub nibble_below : (n : ℕ) → nibble n ≤ 14
nibble_below n =
    elim (cases_lt n 13) [
      | inl lt ↦ let t : ltb n 13 ≡ true = lt-ltb n 13 lt in rw t (omega arith)
      | inr ge ↦ elim (cases_lt n 269) [
        | inl lt ↦ let t : ltb n 13 ≡ false = le-ltb n 13 ge in let u : ltb n 269 ≡ true = lt-ltb n 269 lt in rw (t, u) (omega arith)
        | inr high ↦ let t : ltb n 13 ≡ false = le-ltb n 13 ge in let u : ltb n 269 ≡ false = le-ltb n 269 high in rw (t, u) (omega arith)
      ]
    ]

pub extension_below : (n : ℕ) → length (extension n) ≤ 2
extension_below n =
    elim (cases_lt n 13) [
      | inl lt ↦ let t : ltb n 13 ≡ true = lt-ltb n 13 lt in rw t (omega arith)
      | inr ge ↦ elim (cases_lt n 269) [
        | inl lt ↦ let t : ltb n 13 ≡ false = le-ltb n 13 ge in let u : ltb n 269 ≡ true = lt-ltb n 269 lt in rw (t, u) (omega arith)
        | inr high ↦ let t : ltb n 13 ≡ false = le-ltb n 13 ge in let u : ltb n 269 ≡ false = le-ltb n 269 high in rw (t, u) (omega arith)
      ]
    ]

-- a length that was written is read again
pub length_again : (v : ℕ) (rest : List ℕ) → v ≤ 4096 → length_at (nibble v) (extension v ++ rest) ≡ Some (v, rest)
unfolding length_at
length_again v rest le =
    let t : eqb (nibble v) 15 ≡ false = ne_eqb (nibble v) 15 (λ e. omega (arith, e, nibble_below v)) in
    rw t (extended_again v rest (omega arith))
