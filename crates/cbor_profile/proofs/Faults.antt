-- Where a head, a string or parts one after the other are not read, they break.
use Rattle.std.proofs.Common.{◌≡◌, ℕ, zero, suc, ◌+◌, ◌*◌, ◌-◌, ◌/◌, ◌%◌, ◌<◌, ◌≤◌, true, false, cond, ltb, List, [], ◌∷◌, ◌++◌, length, Ok, Err, refl, sym, ap, ◌∙◌, subst, inl, inr, arith, append_assoc}
use Rattle.std.specs.Prelude.{nat_lt, ◌==◌, not, IsUtf8}
use Rattle.std.specs.Int.{byte_len}
use Rattle.std.specs.Str.{is_utf8}
use Rattle.std.proofs.lemmas.Bool.{ltb-true, ltb-false, eqb-false, not-false, not-true, lt-ltb, eq-eqb, and_from}
use Rattle.std.proofs.lemmas.List.{length-append, nil_from_length}
use Rattle.std.proofs.lemmas.Str.{is_utf8-from_IsUtf8}
use Rattle.cbor_profile.specs.declared.fault.CborFault.{CborFault}
use Rattle.cbor_profile.specs.declared.fault.CborFault.TheVariants.{Short, Reserved, NotUtf8}
use Rattle.cbor_profile.specs.declared.major.Major.{Major}
use Rattle.cbor_profile.specs.declared.major.Major.TheVariants as major_type
use Rattle.cbor_profile.specs.Parts.{number_of}
use Rattle.cbor_profile.specs.Spelling.{width, break, IsHead, AreParts}
use Rattle.cbor_profile.specs.Breaking.{IsCut, BreaksString, BreaksPart}
use Rattle.cbor_profile.specs.ItemReading.{Read, ◌>>=◌, argument_at, number_at, content_at, checked, string_at, is_part, parts_at}
use Rattle.cbor_profile.proofs.Results.{bind_err, err_is, not_both, chosen, done, broken}
use Rattle.cbor_profile.proofs.Taken.{Argument, argument_taken, content_taken, String, string_taken, one_part, part_is}

-- ---- places

-- behind what was taken, the input ends where it did
pub end_after : (at end : ℕ) (bytes front rest : List ℕ) → at + length bytes ≡ end → bytes ≡ front ++ rest → at + length front + length rest ≡ end
end_after at end bytes front rest h is = let l = ap length is in let m = length-append front rest in omega arith

pub short_is : (at end : ℕ) (bytes : List ℕ) (f : CborFault) → at + length bytes ≡ end → f ≡ Short end → f ≡ Short (at + length bytes)
short_is at end bytes f h is = is ∙ ap Short (sym h)

-- ---- heads and strings

argument_broken : (end info : ℕ) (bytes : List ℕ) (f : CborFault) → argument_at end info bytes ≡ Err f → (24 ≤ info) × (length bytes < byte_len (width info)) × (f ≡ Short end)
unfolding argument_at
argument_broken end info bytes f e = elim (chosen (ltb info 24) (Ok (info, bytes)) (number_at end (width info) bytes) (Err f) e) [
  | inl small ↦ absurd (not_both (info, bytes) f small.1)
  | inr large ↦ elim (chosen (ltb (length bytes) (byte_len (width info))) (broken (Short end)) _ (Err f) large.1) [
    | inl short ↦ (ltb-false _ _ large.0, ltb-true _ _ short.0, sym (err_is {A = ℕ × List ℕ} (Short end) f short.1))
    | inr long ↦ absurd (not_both _ f long.1)
  ]
]

pub cut : (end at major info : ℕ) (bytes : List ℕ) (f : CborFault) → at + suc (length bytes) ≡ end → info < 28 → argument_at end info bytes ≡ Err f → IsCut major ((32 * major + info) ∷ bytes) × (f ≡ Short (at + suc (length bytes)))
cut end at major info bytes f h lt e =
    let b = argument_broken end info bytes f e in
    (record { info = info; more = bytes; least = b.0; most = lt; is = refl; short = b.1 }, b.2 ∙ ap Short (sym h))

content_broken : (end n : ℕ) (bytes : List ℕ) (f : CborFault) → content_at end n bytes ≡ Err f → (length bytes < n) × (f ≡ Short end)
content_broken end n bytes f e = elim (chosen (ltb (length bytes) n) (broken (Short end)) _ (Err f) e) [
  | inl short ↦ (ltb-true _ _ short.0, sym (err_is {A = List ℕ × List ℕ} (Short end) f short.1))
  | inr long ↦ absurd (not_both _ f long.1)
]

not_utf8 : (bytes : List ℕ) → is_utf8 bytes ≡ false → IsUtf8 bytes → ⊥
not_utf8 bytes e is = let t = is_utf8-from_IsUtf8 bytes is in let both : true ≡ false = sym t ∙ e in cc

text_broken : (at : ℕ) (s : List ℕ × List ℕ) (f : CborFault) → cond (not (is_utf8 s.0)) (broken (NotUtf8 at)) (done s) ≡ Err f → (IsUtf8 s.0 → ⊥) × (f ≡ NotUtf8 at)
text_broken at s f e = elim (chosen (not (is_utf8 s.0)) (broken (NotUtf8 at)) (done s) (Err f) e) [
  | inl bad ↦ (not_utf8 s.0 (not-true _ bad.0), sym (err_is {A = List ℕ × List ℕ} (NotUtf8 at) f bad.1))
  | inr good ↦ absurd (not_both s f good.1)
]

checked_broken : (a : Major) (at : ℕ) (s : List ℕ × List ℕ) (f : CborFault) → checked a at s ≡ Err f → (number_of a ≡ 3) × (IsUtf8 s.0 → ⊥) × (f ≡ NotUtf8 at)
checked_broken major_type.Unsigned at s f e = absurd (not_both s f e)
checked_broken major_type.Negative at s f e = absurd (not_both s f e)
checked_broken major_type.Bytes at s f e = absurd (not_both s f e)
checked_broken major_type.Text at s f e = let b = text_broken at s f e in (refl, b.0, b.1)
checked_broken major_type.Array at s f e = absurd (not_both s f e)
checked_broken major_type.Map at s f e = absurd (not_both s f e)
checked_broken major_type.Tag at s f e = absurd (not_both s f e)
checked_broken major_type.Simple at s f e = absurd (not_both s f e)

pub head_of : (major info n : ℕ) (bytes rest : List ℕ) (arg : Argument info n bytes rest) → IsHead major n ((32 * major + info) ∷ arg.following)
head_of major info n bytes rest arg = record { info = info; following = arg.following; argument = arg.argument; is = refl }

behind_argument : (end at : ℕ) (a : Major) (info : ℕ) (bytes : List ℕ) (f : CborFault) (n : ℕ × List ℕ) → at + suc (length bytes) ≡ end → Argument info n.0 bytes n.1
    → (content_at end n.0 n.1 >>= λ s. checked a at s) ≡ Err f → BreaksString (number_of a) at ((32 * number_of a + info) ∷ bytes) f
behind_argument end at a info bytes f n h arg e = elim (bind_err (content_at end n.0 n.1) (λ s. checked a at s) f e) [
  | inl short ↦
      let b = content_broken end n.0 n.1 f short in
      BreaksString.content n.0 ((32 * number_of a + info) ∷ arg.following) n.1 (head_of (number_of a) info n.0 bytes n.1 arg) (ap (λ (l : List ℕ). (32 * number_of a + info) ∷ l) arg.is) b.0 (b.1 ∙ ap Short (sym h))
  | inr more ↦
      let s = more.0 in
      let c = checked_broken a at s f more.2 in
      let t = content_taken end n.0 n.1 s more.1 in
      BreaksString.utf8 ((32 * number_of a + info) ∷ arg.following) s.0 s.1 (subst (λ (m : ℕ). IsHead (number_of a) m ((32 * number_of a + info) ∷ arg.following)) (sym t.0) (head_of (number_of a) info n.0 bytes n.1 arg))
      (ap (λ (l : List ℕ). (32 * number_of a + info) ∷ l) (arg.is ∙ ap (λ (l : List ℕ). arg.following ++ l) t.1)) c.0 c.1 c.2
]

pub string_broken : (end at : ℕ) (a : Major) (info : ℕ) (bytes : List ℕ) (f : CborFault) → at + suc (length bytes) ≡ end → info < 28 → string_at end at a info bytes ≡ Err f
    → BreaksString (number_of a) at ((32 * number_of a + info) ∷ bytes) f
unfolding string_at
string_broken end at a info bytes f h lt e = elim (bind_err (argument_at end info bytes) (λ n. content_at end n.0 n.1 >>= λ s. checked a at s) f e) [
  | inl short ↦ let c = cut end at (number_of a) info bytes f h lt short in BreaksString.argument c.0 c.1
  | inr more ↦ behind_argument end at a info bytes f more.0 h (argument_taken end info bytes more.0 lt more.1) more.2
]

-- whole parts, and then one that breaks
pub record PartsBreak (major at : ℕ) (bytes : List ℕ) (f : CborFault) : Type 0 where
  pub parts : List (List ℕ)
  pub string : List ℕ
  pub content : List ℕ
  pub more : List ℕ
  pub are : AreParts major parts string content
  pub is : bytes ≡ content ++ more
  pub breaks : BreaksPart major (at + length content) more f

parts_at_once : (major at : ℕ) (bytes : List ℕ) (f : CborFault) → BreaksPart major at bytes f → PartsBreak major at bytes f
parts_at_once major at bytes f b =
    let place : at ≡ at + 0 = omega arith in
    record { parts = []; string = []; content = []; more = bytes; are = (refl, refl); is = refl; breaks = subst (λ (p : ℕ). BreaksPart major p bytes f) place b }

no_part : (a : Major) (first info : ℕ) → is_part a first ≡ false → info < 28 → first ≡ 32 * number_of a + info → ⊥
no_part a first info e lt is =
    let q : first / 32 ≡ number_of a = omega arith in
    let r : first % 32 < 28 = omega arith in
    let t : is_part a first ≡ true = and_from (first / 32 == number_of a) (nat_lt (first % 32) 28) (eq-eqb _ _ q) (lt-ltb _ _ r) in
    let both : true ≡ false = sym t ∙ e in
    cc

abbrev parts_behind : ℕ → ℕ → Major → List ℕ × List ℕ → Read (List ℕ)
parts_behind fuel end a string = parts_at fuel end a string.1 >>= λ others. Ok (string.0 ++ others.0, others.1)

part_then : (end at : ℕ) (a : Major) (first : ℕ) (bytes : List ℕ) (s : List ℕ × List ℕ) (f : CborFault) → first ≡ 32 * number_of a + first % 32 → (one : String (number_of a) (first % 32) bytes s.0 s.1)
    → PartsBreak (number_of a) (at + suc (length (one.following ++ s.0))) s.1 f → PartsBreak (number_of a) at (first ∷ bytes) f
part_then end at a first bytes s f kind one rest =
    let front : List ℕ = (32 * number_of a + first % 32) ∷ (one.following ++ s.0) in
    let sum = length-append front rest.content in
    let place : at + suc (length (one.following ++ s.0)) + length rest.content ≡ at + length (front ++ rest.content) = omega arith in record {
      parts = s.0 ∷ rest.parts;
      string = s.0 ++ rest.string;
      content = front ++ rest.content;
      more = rest.more;
      are = (front, rest.content, rest.string, refl, refl, one_part (number_of a) (first % 32) bytes s.0 s.1 one, rest.are);
      is =
          ap (λ (b : ℕ). b ∷ bytes) kind
          ∙ ap (λ (l : List ℕ). (32 * number_of a + first % 32) ∷ l) (one.is ∙ ap (λ (l : List ℕ). one.following ++ (s.0 ++ l)) rest.is ∙ sym (append_assoc one.following s.0 (rest.content ++ rest.more)))
          ∙ sym (append_assoc front rest.content rest.more);
      breaks = subst (λ (p : ℕ). BreaksPart (number_of a) p rest.more f) place rest.breaks;
    }

part_breaks : (fuel end at : ℕ) (a : Major) (first : ℕ) (bytes : List ℕ) (f : CborFault) → at + suc (length bytes) ≡ end → length bytes ≤ fuel → is_part a first ≡ true
    → ((p : ℕ) (more : List ℕ) → p + length more ≡ end → length more ≤ fuel → parts_at fuel end a more ≡ Err f → PartsBreak (number_of a) p more f)
    → (string_at end (end - suc (length bytes)) a (first % 32) bytes >>= parts_behind fuel end a) ≡ Err f → PartsBreak (number_of a) at (first ∷ bytes) f
part_breaks fuel end at a first bytes f h enough is rec e =
    let kind = part_is a first is in
    let here : end - suc (length bytes) ≡ at = omega arith in
    elim (bind_err (string_at end (end - suc (length bytes)) a (first % 32) bytes) (parts_behind fuel end a) f e) [
      | inl one ↦
          let b = string_broken end at a (first % 32) bytes f h kind.1 (subst (λ (p : ℕ). string_at end p a (first % 32) bytes ≡ Err f) here one) in
          parts_at_once (number_of a) at (first ∷ bytes) f (BreaksPart.part (subst (λ (b : ℕ). BreaksString (number_of a) at (b ∷ bytes) f) (sym kind.0) b))
      | inr next ↦
          let s = next.0 in
          let one = string_taken end (end - suc (length bytes)) a (first % 32) bytes s kind.1 next.1 in
          let l = ap length (one.is ∙ sym (append_assoc one.following s.0 s.1)) in
          let m = length-append (one.following ++ s.0) s.1 in
          elim (bind_err (parts_at fuel end a s.1) (λ others. Ok (s.0 ++ others.0, others.1)) f next.2) [
            | inl later ↦ part_then end at a first bytes s f kind.0 one (rec (at + suc (length (one.following ++ s.0))) s.1 (omega arith) (omega arith) later)
            | inr good ↦ absurd (not_both _ f good.2)
          ]
    ]

pub parts_broken : (fuel end at : ℕ) (a : Major) (bytes : List ℕ) (f : CborFault) → at + length bytes ≡ end → length bytes ≤ fuel → parts_at fuel end a bytes ≡ Err f → PartsBreak (number_of a) at bytes f
unfolding parts_at
parts_broken zero end at a bytes f h enough e =
    let empty = nil_from_length bytes (omega arith) in
    let is : f ≡ Short at = sym (err_is {A = List ℕ × List ℕ} (Short end) f e) ∙ ap Short (omega arith) in
    parts_at_once (number_of a) at bytes f (BreaksPart.short empty is)
parts_broken (suc fuel) end at a [] f h enough e =
    let is : f ≡ Short at = sym (err_is {A = List ℕ × List ℕ} (Short end) f e) ∙ ap Short (omega arith) in
    parts_at_once (number_of a) at [] f (BreaksPart.short refl is)
parts_broken (suc fuel) end at a (first ∷ bytes) f h enough e = elim (chosen (first == break) (Ok ([], bytes)) _ (Err f) e) [
  | inl ends ↦ absurd (not_both _ f ends.1)
  | inr goes ↦ elim (chosen (not (is_part a first)) (broken (Reserved (end - suc (length bytes)))) _ (Err f) goes.1) [
    | inl other ↦
        let is : f ≡ Reserved at = sym (err_is {A = List ℕ × List ℕ} (Reserved (end - suc (length bytes))) f other.1) ∙ ap Reserved (omega arith) in
        parts_at_once (number_of a) at (first ∷ bytes) f (BreaksPart.other first bytes refl (eqb-false first break goes.0) (λ info lt same. no_part a first info (not-true _ other.0) lt same) is)
    | inr part ↦ part_breaks fuel end at a first bytes f h (omega arith) (not-false _ part.0) (λ p more k few again. parts_broken fuel end p a more f k few again) part.1
  ]
]
