-- The options in front of bytes, and where they end.
use Rattle.std.proofs.Common.{◌≡◌, ℕ, zero, suc, ◌+◌, ◌/◌, ◌%◌, ◌<◌, ◌≤◌, cond, ltb, List, [], ◌∷◌, ◌++◌, length, take, drop, Option, Some, None, refl, sym, ap, subst, ◌∙◌, append_assoc, arith, inl, inr}
use Rattle.std.specs.Prelude.{◌⊎◌}
use Rattle.std.proofs.lemmas.List.{length-drop}
use Rattle.coap_message.specs.Message.{last_number, CoapOption, AreOptions, option_bytes, options_bytes, payload_bytes}
use Rattle.coap_message.specs.MessageReading.{◌>>=◌, extended_at, option_at, options_within, options_in}
use Rattle.coap_message.proofs.Steps.{bind_some, some_is, guard_some}
use Rattle.coap_message.proofs.Extended.{extended_shorter}
use Rattle.coap_message.proofs.OneOption.{option_again}

pub option_shorter : (previous : ℕ) (bytes : List ℕ) (x : CoapOption × List ℕ) → option_at previous bytes ≡ Some x → length x.1 < length bytes
unfolding option_at
option_shorter previous [] x e = absurd cc
option_shorter previous (first ∷ bytes) x e =
    let a = bind_some (extended_at (first / 16) bytes) (λ delta. extended_at (first % 16) delta.1 >>= λ len. cond (ltb 65535 (previous + delta.0)) None (cond (ltb (length len.1) len.0) None (Some (record { number = previous + delta.0; value = take len.0 len.1 }, drop len.0 len.1)))) x e in
    let b = bind_some (extended_at (first % 16) a.0.1) (λ len. cond (ltb 65535 (previous + a.0.0)) None (cond (ltb (length len.1) len.0) None (Some (record { number = previous + a.0.0; value = take len.0 len.1 }, drop len.0 len.1)))) x a.2 in
    let g = guard_some (ltb 65535 (previous + a.0.0)) (cond (ltb (length b.0.1) b.0.0) None (Some (record { number = previous + a.0.0; value = take b.0.0 b.0.1 }, drop b.0.0 b.0.1))) x b.2 in
    let h = guard_some (ltb (length b.0.1) b.0.0) (Some (record { number = previous + a.0.0; value = take b.0.0 b.0.1 }, drop b.0.0 b.0.1)) x g.1 in
    let made : CoapOption × List ℕ = (record { number = previous + a.0.0; value = take b.0.0 b.0.1 }, drop b.0.0 b.0.1) in
    let rest : length (drop b.0.0 b.0.1) ≡ length x.1 = ap (λ (y : CoapOption × List ℕ). length y.1) (some_is made x h.1) in
    let p = extended_shorter (first / 16) bytes a.0 a.1 in
    let q = extended_shorter (first % 16) a.0.1 b.0 b.1 in
    omega (arith, length-drop b.0.0 b.0.1, p, q, rest)

within_step : (n previous : ℕ) (bytes : List ℕ) (o : CoapOption) (rest : List ℕ) → option_at previous bytes ≡ Some (o, rest) → options_within (suc n) previous bytes ≡ o ∷ options_within n o.number rest
unfolding options_within
within_step n previous bytes o rest e = rw e refl

pub none_at : (previous : ℕ) → option_at previous [] ≡ None
unfolding option_at
none_at previous = refl

within_none : (n previous : ℕ) (bytes : List ℕ) → option_at previous bytes ≡ None → options_within n previous bytes ≡ []
unfolding options_within
within_none zero previous bytes e = refl
within_none (suc n) previous bytes e = rw e refl

option_or_not : (r : Option (CoapOption × List ℕ)) → (r ≡ None) ⊎ ((x : CoapOption × List ℕ) × (r ≡ Some x))
option_or_not None = inl refl
option_or_not (Some x) = inr (x, refl)

-- it doesn't matter how many more options there might be
within_enough : (n m previous : ℕ) (bytes : List ℕ) → length bytes ≤ n → length bytes ≤ m → options_within n previous bytes ≡ options_within m previous bytes
within_enough zero m previous [] h k = within_none zero previous [] (none_at previous) ∙ sym (within_none m previous [] (none_at previous))
within_enough zero m previous (b ∷ bytes) h k = absurd (omega (arith, h))
within_enough (suc n) zero previous [] h k = within_none (suc n) previous [] (none_at previous) ∙ sym (within_none zero previous [] (none_at previous))
within_enough (suc n) zero previous (b ∷ bytes) h k = absurd (omega (arith, k))
within_enough (suc n) (suc m) previous bytes h k =
    elim (option_or_not (option_at previous bytes)) [
      | inl e ↦ within_none (suc n) previous bytes e ∙ sym (within_none (suc m) previous bytes e)
      | inr p ↦
          let shorter = option_shorter previous bytes p.0 p.1 in
          within_step n previous bytes p.0.0 p.0.1 p.1
          ∙ ap (λ (os : List CoapOption). p.0.0 ∷ os) (within_enough n m p.0.0.number p.0.1 (omega (arith, shorter)) (omega (arith, shorter)))
          ∙ sym (within_step m previous bytes p.0.0 p.0.1 p.1)
    ]

pub options_none : (previous : ℕ) (bytes : List ℕ) → option_at previous bytes ≡ None → options_in previous bytes ≡ []
unfolding options_in
options_none previous bytes e = within_none (length bytes) previous bytes e

pub options_step : (previous : ℕ) (bytes : List ℕ) (o : CoapOption) (rest : List ℕ) → option_at previous bytes ≡ Some (o, rest) → options_in previous bytes ≡ o ∷ options_in o.number rest
unfolding options_in
options_step previous bytes o rest e =
    let shorter = option_shorter previous bytes (o, rest) e in
    within_enough (length bytes) (suc (length bytes)) previous bytes (omega arith) (omega arith) ∙ within_step (length bytes) previous bytes o rest e
    ∙ ap (λ (os : List CoapOption). o ∷ os) (within_enough (length bytes) (length rest) o.number rest (omega (arith, shorter)) (omega arith))

-- options that were written are read again
pub options_again : (previous : ℕ) (os : List CoapOption) → AreOptions previous os → options_in previous (options_bytes previous os) ≡ os
options_again previous [] are = options_none previous [] (none_at previous)
options_again previous (o ∷ os) are =
    options_step previous (option_bytes previous o ++ options_bytes o.number os) o (options_bytes o.number os) (option_again previous o (options_bytes o.number os) are.0 are.1 are.2)
    ∙ ap (λ (rest : List CoapOption). o ∷ rest) (options_again o.number os are.3)

pub marker_none : (previous : ℕ) (rest : List ℕ) → option_at previous (255 ∷ rest) ≡ None
unfolding option_at extended_at
marker_none previous rest = refl

pub payload_none : (previous : ℕ) (payload : List ℕ) → option_at previous (payload_bytes payload) ≡ None
unfolding option_at extended_at
payload_none previous [] = refl
payload_none previous (b ∷ bs) = refl

one_more : (o p : CoapOption) (os others : List CoapOption) (rest rest' : List ℕ) → o ≡ p → AreOptions o.number os → AreOptions o.number others → option_at (last_number o.number os) rest ≡ None → option_at (last_number o.number others) rest' ≡ None
    → options_bytes o.number os ++ rest ≡ options_bytes o.number others ++ rest'
    → (AreOptions o.number os → AreOptions o.number others → option_at (last_number o.number os) rest ≡ None → option_at (last_number o.number others) rest' ≡ None → options_bytes o.number os ++ rest ≡ options_bytes o.number others ++ rest' → (os ≡ others) × (rest ≡ rest'))
    → (o ∷ os ≡ p ∷ others) × (rest ≡ rest')
one_more o p os others rest rest' same a b stuck stuck' e further =
    let done = further a b stuck stuck' e in
    let tails = done.0 in
    (cc, done.1)

-- Where options are followed by what is no option, the options and what follows are the only ones.
pub one_ending : (previous : ℕ) (os others : List CoapOption) (rest rest' : List ℕ) → AreOptions previous os → AreOptions previous others → option_at (last_number previous os) rest ≡ None → option_at (last_number previous others) rest' ≡ None
    → options_bytes previous os ++ rest ≡ options_bytes previous others ++ rest' → (os ≡ others) × (rest ≡ rest')
one_ending previous [] [] rest rest' a b stuck stuck' e = (refl, e)
one_ending previous [] (o ∷ others) rest rest' a b stuck stuck' e =
    let tail = options_bytes o.number others ++ rest' in
    let read : option_at previous rest ≡ Some (o, tail) = ap (option_at previous) (e ∙ append_assoc (option_bytes previous o) (options_bytes o.number others) rest') ∙ option_again previous o tail b.0 b.1 b.2 in
    absurd cc
one_ending previous (o ∷ os) [] rest rest' a b stuck stuck' e =
    let tail = options_bytes o.number os ++ rest in
    let read : option_at previous rest' ≡ Some (o, tail) = ap (option_at previous) (sym e ∙ append_assoc (option_bytes previous o) (options_bytes o.number os) rest) ∙ option_again previous o tail a.0 a.1 a.2 in
    absurd cc
one_ending previous (o ∷ os) (p ∷ others) rest rest' a b stuck stuck' e =
    let tail = options_bytes o.number os ++ rest in
    let tail' = options_bytes p.number others ++ rest' in
    let left : option_at previous (options_bytes previous (o ∷ os) ++ rest) ≡ Some (o, tail) = ap (option_at previous) (append_assoc (option_bytes previous o) (options_bytes o.number os) rest) ∙ option_again previous o tail a.0 a.1 a.2 in
    let right : option_at previous (options_bytes previous (p ∷ others) ++ rest') ≡ Some (p, tail') = ap (option_at previous) (append_assoc (option_bytes previous p) (options_bytes p.number others) rest') ∙ option_again previous p tail' b.0 b.1 b.2 in
    let both : (o, tail) ≡ (p, tail') = some_is (o, tail) (p, tail') (sym left ∙ ap (option_at previous) e ∙ right) in
    let same : o ≡ p = ap (λ (x : CoapOption × List ℕ). x.0) both in
    let behind : tail ≡ tail' = ap (λ (x : CoapOption × List ℕ). x.1) both in
    one_more o p os others rest rest' same a.3 (subst (λ (k : CoapOption). AreOptions k.number others) (sym same) b.3) stuck (subst (λ (k : CoapOption). option_at (last_number k.number others) rest' ≡ None) (sym same) stuck')
    (behind ∙ ap (λ (k : CoapOption). options_bytes k.number others ++ rest') (sym same)) (one_ending o.number os others rest rest')
