-- Bytes with a fault are no message, and have no other first fault.
use Rattle.std.proofs.Common.{◌≡◌, ℕ, suc, ◌+◌, ◌-◌, ◌/◌, ◌%◌, ◌≤◌, Bool, true, false, cond, ltb, eqb, not, ◌&&◌, ◌||◌, List, [], ◌∷◌, length, take, drop, Option, Some, None, refl, sym, ap, subst, ◌∙◌, arith, inl, inr}
use Rattle.std.specs.Prelude.{◌⊎◌}
use Rattle.std.specs.Int.{w16, from_be_bytes}
use Rattle.std.proofs.lemmas.Bool.{eqb-true, ne_eqb}
use Rattle.std.proofs.lemmas.List.{drop-drop, length-drop}
use Rattle.coap_message.specs.declared.fault.CoapFault.{CoapFault}
use Rattle.coap_message.specs.declared.fault.CoapFault.TheVariants.{EmptyPayload}
use Rattle.coap_message.specs.Message.{CoapOption, CoapMessage, IsMessage, last_number, payload_bytes, spelling}
use Rattle.coap_message.specs.MessageReading.{◌>>=◌, Head, kind_of, head_at, extended_at, option_at, Splits}
use Rattle.coap_message.specs.Breaks.{head_break, behind_head, length_break, option_break, rest_break, OptionsBreak, Breaks}
use Rattle.coap_message.proofs.Steps.{chosen, some, some_is, bind_some, guard_some}
use Rattle.coap_message.proofs.OptionList.{one_ending, payload_none, marker_none}
use Rattle.coap_message.proofs.Heads.{not_false}
use Rattle.coap_message.proofs.Whole.{whole_head}

extended_reserved : (bytes : List ℕ) → extended_at 15 bytes ≡ None
unfolding extended_at
extended_reserved bytes = refl

or_true : (a b : Bool) → (a || b) ≡ true → (a ≡ true) ⊎ (b ≡ true)
or_true true b e = inl refl
or_true false b e = inr e

bind_none : {A B : Type 0} (r : Option A) (f : A → Option B) → ((x : A) → f x ≡ None) → (r >>= f) ≡ None
bind_none (Some x) f h = h x
bind_none None f h = refl

true_or_false : (b : Bool) → (b ≡ true) ⊎ (b ≡ false)
true_or_false true = inl refl
true_or_false false = inr refl

pub reserved_none : (previous first : ℕ) (bytes : List ℕ) → (eqb (first / 16) 15 || eqb (first % 16) 15) ≡ true → option_at previous (first ∷ bytes) ≡ None
unfolding option_at
reserved_none previous first bytes e =
    elim (or_true (eqb (first / 16) 15) (eqb (first % 16) 15) e) [
      | inl p ↦ rw (eqb-true (first / 16) 15 p, extended_reserved bytes) refl
      | inr p ↦ bind_none (extended_at (first / 16) bytes) _ (λ delta. rw (eqb-true (first % 16) 15 p, extended_reserved delta.1) refl)
    ]

unbroken_by : (end at previous m n : ℕ) (bytes : List ℕ) (delta len : ℕ × List ℕ) → extended_at m bytes ≡ Some delta → extended_at n delta.1 ≡ Some len → ltb 65535 (previous + delta.0) ≡ false → ltb (length len.1) len.0 ≡ false
    → length_break end at previous n (extended_at m bytes) ≡ None
unbroken_by end at previous m n bytes delta len d l g h = rw (d, l, g, h) refl

-- an option that is read has no fault
unbroken : (end previous : ℕ) (bytes : List ℕ) (x : CoapOption × List ℕ) → option_at previous bytes ≡ Some x → option_break end previous bytes ≡ None
unfolding option_at option_break
unbroken end previous [] x e = absurd cc
unbroken end previous (first ∷ bytes) x e =
    elim (true_or_false (eqb (first / 16) 15 || eqb (first % 16) 15)) [
      | inl reserved ↦ let none = reserved_none previous first bytes reserved in absurd (let both : None ≡ some x = sym none ∙ e in cc)
      | inr free ↦
          let a = bind_some (extended_at (first / 16) bytes) (λ delta. extended_at (first % 16) delta.1 >>= λ len. cond (ltb 65535 (previous + delta.0)) None (cond (ltb (length len.1) len.0) None (Some (record { number = previous + delta.0; value = take len.0 len.1 }, drop len.0 len.1)))) x e in
          let b = bind_some (extended_at (first % 16) a.0.1) (λ len. cond (ltb 65535 (previous + a.0.0)) None (cond (ltb (length len.1) len.0) None (Some (record { number = previous + a.0.0; value = take len.0 len.1 }, drop len.0 len.1)))) x a.2 in
          let g = guard_some (ltb 65535 (previous + a.0.0)) (cond (ltb (length b.0.1) b.0.0) None (Some (record { number = previous + a.0.0; value = take b.0.0 b.0.1 }, drop b.0.0 b.0.1))) x b.2 in
          let h = guard_some (ltb (length b.0.1) b.0.0) (Some (record { number = previous + a.0.0; value = take b.0.0 b.0.1 }, drop b.0.0 b.0.1)) x g.1 in
          rw free (unbroken_by end (end - suc (length bytes)) previous (first / 16) (first % 16) bytes a.0 b.0 a.1 b.1 g.0 h.0)
    ]

option_or_not : (r : Option (CoapOption × List ℕ)) → (r ≡ None) ⊎ ((x : CoapOption × List ℕ) × (r ≡ Some x))
option_or_not None = inl refl
option_or_not (Some x) = inr (x, refl)

pub broken : (end previous : ℕ) (bytes : List ℕ) (fault : CoapFault) → option_break end previous bytes ≡ Some fault → option_at previous bytes ≡ None
broken end previous bytes fault e =
    elim (option_or_not (option_at previous bytes)) [
      | inl none ↦ none
      | inr p ↦ let no = unbroken end previous bytes p.0 p.1 in absurd cc
    ]

-- what follows the options is no option where it has a fault
rest_broken : (end previous : ℕ) (rest : List ℕ) (fault : CoapFault) → rest_break end previous rest ≡ Some fault → option_at previous rest ≡ None
rest_broken end previous [] fault e = absurd cc
rest_broken end previous (first ∷ bytes) fault e =
    elim (chosen (not (eqb first 255)) (option_break end previous (first ∷ bytes)) (cond (eqb (length bytes) 0) (Some (EmptyPayload (end - 1))) None) (Some fault) e) [
      | inl p ↦ broken end previous (first ∷ bytes) fault p.1
      | inr p ↦ ap (λ (k : ℕ). option_at previous (k ∷ bytes)) (eqb-true first 255 (not_false (eqb first 255) p.0)) ∙ marker_none previous bytes
    ]

-- nor is it a payload
payload_unbroken : (end previous : ℕ) (payload : List ℕ) → rest_break end previous (payload_bytes payload) ≡ None
payload_unbroken end previous [] = refl
payload_unbroken end previous (b ∷ bs) = let more : eqb (suc (length bs)) 0 ≡ false = ne_eqb (suc (length bs)) 0 (λ e. absurd (omega (arith, e))) in rw more refl

pub breaks_no_split : (end : ℕ) (bytes : List ℕ) (fault : CoapFault) (os : List CoapOption) (payload : List ℕ) → OptionsBreak end bytes fault → Splits bytes os payload → ⊥
breaks_no_split end bytes fault os payload b split =
    let stuck = rest_broken end (last_number 0 b.options) b.rest fault b.breaks in
    let same = one_ending 0 b.options os b.rest (payload_bytes payload) b.are split.are stuck (payload_none (last_number 0 os) payload) (sym b.parts ∙ split.parts) in
    let none = payload_unbroken end (last_number 0 b.options) payload in
    let also : rest_break end (last_number 0 b.options) b.rest ≡ None = ap (rest_break end (last_number 0 b.options)) same.1 ∙ none in
    let breaks = b.breaks in
    cc

pub one_options_break : (end : ℕ) (bytes : List ℕ) (fault other : CoapFault) → OptionsBreak end bytes fault → OptionsBreak end bytes other → fault ≡ other
one_options_break end bytes fault other a b =
    let same = one_ending 0 a.options b.options a.rest b.rest a.are b.are (rest_broken end (last_number 0 a.options) a.rest fault a.breaks) (rest_broken end (last_number 0 b.options) b.rest other b.breaks) (sym a.parts ∙ b.parts) in
    some_is fault other (sym a.breaks ∙ ap (λ (os : List CoapOption). rest_break end (last_number 0 os) a.rest) same.0 ∙ ap (rest_break end (last_number 0 b.options)) same.1 ∙ b.breaks)

and_or : (c a b : Bool) → (c && (a || b)) ≡ false → ((c && a) ≡ false) × ((c && b) ≡ false)
and_or true true b e = absurd cc
and_or true false b e = (refl, e)
and_or false a b e = (refl, refl)

-- a header that is read has no fault
pub head_found : (bytes : List ℕ) (head : Head) (rest : List ℕ) → head_at bytes ≡ Some (head, rest) → (head_break bytes ≡ None) × (behind_head bytes ≡ rest)
unfolding head_at
head_found [] head rest e = absurd cc
head_found (first ∷ []) head rest e = absurd cc
head_found (first ∷ code ∷ []) head rest e = absurd cc
head_found (first ∷ code ∷ high ∷ []) head rest e = absurd cc
head_found (first ∷ code ∷ high ∷ low ∷ bytes) head rest e =
    let n = first % 16 in
    let made : Head × List ℕ = (record { kind = kind_of (first / 16 % 4); code = code; identifier = from_be_bytes w16 (high ∷ low ∷ []); token = take n bytes }, drop n bytes) in
    let d = cond (ltb (length bytes) n) None (some made) in
    let c = cond (eqb code 0 && (ltb 0 n || ltb 0 (length bytes))) None d in
    let b = cond (ltb 8 n) None c in
    let p = guard_some (not (eqb (first / 64) 1)) b (head, rest) e in
    let q = guard_some (ltb 8 n) c (head, rest) p.1 in
    let r = guard_some (eqb code 0 && (ltb 0 n || ltb 0 (length bytes))) d (head, rest) q.1 in
    let s = guard_some (ltb (length bytes) n) (some made) (head, rest) r.1 in
    let t = and_or (eqb code 0) (ltb 0 n) (ltb 0 (length bytes)) r.0 in
    (rw (p.0, q.0, t.0, t.1, s.0) refl, sym (drop-drop n 3 (code ∷ high ∷ low ∷ bytes)) ∙ ap (λ (x : Head × List ℕ). x.1) (some_is made (head, rest) s.1))

pub one_break : (bytes : List ℕ) (fault other : CoapFault) → Breaks bytes fault → Breaks bytes other → fault ≡ other
one_break bytes fault other (inl a) (inl b) = some_is fault other (sym a ∙ b)
one_break bytes fault other (inl a) (inr b) = let none = b.0 in absurd cc
one_break bytes fault other (inr a) (inl b) = let none = a.0 in absurd cc
one_break bytes fault other (inr a) (inr b) = one_options_break (length bytes) (behind_head bytes) fault other a.1 b.1

-- bytes with a fault spell no message
pub breaks_no_message : (bytes : List ℕ) (fault : CoapFault) (m : CoapMessage) → Breaks bytes fault → IsMessage m → bytes ≡ spelling m → ⊥
breaks_no_message bytes fault m (inl a) is spelled = let found = (head_found _ _ _ (ap head_at spelled ∙ whole_head m is)).0 in cc
breaks_no_message bytes fault m (inr a) is spelled =
    let found = head_found _ _ _ (ap head_at spelled ∙ whole_head m is) in
    breaks_no_split (length bytes) (behind_head bytes) fault m.options m.payload a.1 (record { are = is.options; parts = found.1 })

behind_shorter : (bytes : List ℕ) → length (behind_head bytes) ≤ length bytes
behind_shorter [] = omega arith
behind_shorter (first ∷ bytes) = omega (arith, length-drop (3 + first % 16) bytes)

pub head_shorter : (bytes : List ℕ) (head : Head) (rest : List ℕ) → head_at bytes ≡ Some (head, rest) → length rest ≤ length bytes
head_shorter bytes head rest e = omega (arith, behind_shorter bytes, ap (λ (y : List ℕ). length y) (head_found bytes head rest e).1)

pub breaks_behind : (bytes : List ℕ) (head : Head) (rest : List ℕ) (fault : CoapFault) → head_at bytes ≡ Some (head, rest) → OptionsBreak (length bytes) rest fault → Breaks bytes fault
breaks_behind bytes head rest fault e b = let found = head_found bytes head rest e in inr (found.0, subst (λ (y : List ℕ). OptionsBreak (length bytes) y fault) (sym found.1) b)
