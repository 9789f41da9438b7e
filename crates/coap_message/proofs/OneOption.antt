-- An option that is read is the option that was written, and what was written is read again.
use Rattle.std.proofs.Common.{◌≡◌, ℕ, ◌+◌, ◌-◌, ◌*◌, ◌/◌, ◌%◌, ◌^◌, ◌<◌, ◌≤◌, true, false, cond, ltb, List, [], ◌∷◌, ◌++◌, length, take, drop, Some, None, refl, sym, ap, subst, ◌∙◌, append_assoc, arith, inl, inr}
use Rattle.std.proofs.lemmas.Bool.{cases_lt, ltb-false, lt-ltb, le-ltb}
use Rattle.std.proofs.lemmas.List.{take_at, drop_at, take-append-drop, length-append, length-take}
use Rattle.coap_message.specs.Message.{CoapOption, nibble, extension, option_bytes}
use Rattle.coap_message.specs.MessageReading.{◌>>=◌, extended_at, option_at}
use Rattle.coap_message.proofs.Steps.{IsBytes, IsBytes-drop, IsBytes-rest, bind_some, some, some_is, guard_some}
use Rattle.coap_message.proofs.Extended.{Extended, extended_takes, extended_again}

-- what an option that is read rests on
pub record Read (previous : ℕ) (bytes : List ℕ) (o : CoapOption) (rest : List ℕ) : Type 0 where
  pub parts : bytes ≡ option_bytes previous o ++ rest
  pub rises : previous ≤ o.number
  pub number : o.number < 2 ^ 16
  pub size : length o.value ≤ 65804
  pub rest_fits : IsBytes rest

regroup : (a b c d : List ℕ) → (a ++ b ++ c) ++ d ≡ a ++ (b ++ (c ++ d))
regroup a b c d = append_assoc (a ++ b) c d ∙ append_assoc a b (c ++ d)

read_by : (previous delta size first : ℕ) (bytes after behind : List ℕ) → first < 256 → Extended (first / 16) bytes (delta, after) → Extended (first % 16) after (size, behind)
    → previous + delta ≤ 65535 → size ≤ length behind → Read previous (first ∷ bytes) (record { number = previous + delta; value = take size behind }) (drop size behind)
read_by previous delta size first bytes after behind low d l bound room =
    let same : previous + delta - previous ≡ delta = omega arith in
    let len : length (take size behind) ≡ size = omega (arith, length-take size behind) in
    let halves : 16 * nibble delta + nibble size ≡ first = omega (arith, d.nibble_is, l.nibble_is) in
    let whole : bytes ≡ (extension delta ++ extension size ++ take size behind) ++ drop size behind
    = d.parts ∙ ap (λ (y : List ℕ). extension delta ++ y) (l.parts ∙ ap (λ (y : List ℕ). extension size ++ y) (sym (take-append-drop size behind))) ∙ sym (regroup (extension delta) (extension size) (take size behind) (drop size behind)) in
    let spelled : first ∷ bytes ≡ (16 * nibble delta + nibble size) ∷ (extension delta ++ extension size ++ take size behind) ++ drop size behind = rw (halves, ← whole) refl in
    record {
      parts = subst (λ (k : ℕ). first ∷ bytes ≡ (16 * nibble k + nibble (length (take size behind))) ∷ (extension k ++ extension (length (take size behind)) ++ take size behind) ++ drop size behind) (sym same)
          (subst (λ (k : ℕ). first ∷ bytes ≡ (16 * nibble delta + nibble k) ∷ (extension delta ++ extension k ++ take size behind) ++ drop size behind) (sym len) spelled);
      rises = omega arith;
      number = omega arith;
      size = omega (arith, len, l.bound);
      rest_fits = IsBytes-drop size behind l.rest_fits;
    }

pub option_takes : (previous : ℕ) (bytes : List ℕ) (o : CoapOption) (rest : List ℕ) → IsBytes bytes → option_at previous bytes ≡ Some (o, rest) → Read previous bytes o rest
unfolding option_at
option_takes previous [] o rest fits e = absurd cc
option_takes previous (first ∷ bytes) o rest fits e =
    let a = bind_some (extended_at (first / 16) bytes) (λ delta. extended_at (first % 16) delta.1 >>= λ len. cond (ltb 65535 (previous + delta.0)) None (cond (ltb (length len.1) len.0) None (Some (record { number = previous + delta.0; value = take len.0 len.1 }, drop len.0 len.1)))) (o, rest) e in
    let b = bind_some (extended_at (first % 16) a.0.1) (λ len. cond (ltb 65535 (previous + a.0.0)) None (cond (ltb (length len.1) len.0) None (Some (record { number = previous + a.0.0; value = take len.0 len.1 }, drop len.0 len.1)))) (o, rest) a.2 in
    let g = guard_some (ltb 65535 (previous + a.0.0)) (cond (ltb (length b.0.1) b.0.0) None (Some (record { number = previous + a.0.0; value = take b.0.0 b.0.1 }, drop b.0.0 b.0.1))) (o, rest) b.2 in
    let h = guard_some (ltb (length b.0.1) b.0.0) (Some (record { number = previous + a.0.0; value = take b.0.0 b.0.1 }, drop b.0.0 b.0.1)) (o, rest) g.1 in
    let d = extended_takes (first / 16) bytes a.0 (IsBytes-rest first bytes fits) a.1 in
    let l = extended_takes (first % 16) a.0.1 b.0 d.rest_fits b.1 in
    let made : CoapOption × List ℕ = (record { number = previous + a.0.0; value = take b.0.0 b.0.1 }, drop b.0.0 b.0.1) in
    subst (λ (y : CoapOption × List ℕ). Read previous (first ∷ bytes) y.0 y.1) (some_is made (o, rest) h.1)
    (read_by previous a.0.0 b.0.0 first bytes a.0.1 b.0.1 (fits 0) d l (ltb-false _ _ g.0) (ltb-false _ _ h.0))

nibble_below : (n : ℕ) → nibble n ≤ 14
nibble_below n =
    elim (cases_lt n 13) [
      | inl lt ↦ let t : ltb n 13 ≡ true = lt-ltb n 13 lt in rw t (omega arith)
      | inr ge ↦ elim (cases_lt n 269) [
        | inl lt ↦ let t : ltb n 13 ≡ false = le-ltb n 13 ge in let u : ltb n 269 ≡ true = lt-ltb n 269 lt in rw (t, u) (omega arith)
        | inr high ↦ let t : ltb n 13 ≡ false = le-ltb n 13 ge in let u : ltb n 269 ≡ false = le-ltb n 269 high in rw (t, u) (omega arith)
      ]
    ]

high_half : (a b : ℕ) → b ≤ 14 → (16 * a + b) / 16 ≡ a
high_half a b le = omega arith

low_half : (a b : ℕ) → b ≤ 14 → (16 * a + b) % 16 ≡ b
low_half a b le = omega arith

again_by : (previous delta first high low : ℕ) (value rest : List ℕ) → previous + delta ≤ 65535 → delta ≤ 65804 → length value ≤ 65804 → first / 16 ≡ nibble delta → first % 16 ≡ nibble (length value)
    → option_at previous (first ∷ extension delta ++ (extension (length value) ++ (value ++ rest))) ≡ Some (record { number = previous + delta; value = value }, rest)
unfolding option_at
again_by previous delta first high low value rest bound d l h1 h2 =
    let t : ltb 65535 (previous + delta) ≡ false = le-ltb 65535 (previous + delta) bound in
    let u : ltb (length (value ++ rest)) (length value) ≡ false = le-ltb (length (value ++ rest)) (length value) (omega (arith, length-append value rest)) in
    rw (h1, h2, extended_again delta (extension (length value) ++ (value ++ rest)) d, extended_again (length value) (value ++ rest) l, t, u, take_at value rest (length value) refl, drop_at value rest (length value) refl) refl

pub option_again : (previous : ℕ) (o : CoapOption) (rest : List ℕ) → previous ≤ o.number → o.number < 2 ^ 16 → length o.value ≤ 65804 → option_at previous (option_bytes previous o ++ rest) ≡ Some (o, rest)
option_again previous o rest rises number size =
    let delta = o.number - previous in
    let first = 16 * nibble delta + nibble (length o.value) in
    let same : previous + delta ≡ o.number = omega arith in
    let low = nibble_below (length o.value) in
    let regrouped : option_bytes previous o ++ rest ≡ first ∷ extension delta ++ (extension (length o.value) ++ (o.value ++ rest)) = ap (λ (y : List ℕ). first ∷ y) (regroup (extension delta) (extension (length o.value)) o.value rest) in
    ap (option_at previous) regrouped ∙ again_by previous delta first 0 0 o.value rest (omega arith) (omega arith) size (high_half (nibble delta) (nibble (length o.value)) low) (low_half (nibble delta) (nibble (length o.value)) low)
    ∙ ap (λ (k : ℕ). some (record { number = k; value = o.value }, rest)) same
