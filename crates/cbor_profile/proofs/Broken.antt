-- Where no item is read, the bytes break.
use Rattle.std.proofs.Common.{◌≡◌, ℕ, zero, suc, ◌+◌, ◌*◌, ◌-◌, ◌/◌, ◌%◌, ◌<◌, ◌≤◌, List, [], ◌∷◌, ◌++◌, length, Option, Ok, Err, refl, sym, ap, ◌∙◌, subst, inl, inr, arith}
use Rattle.std.specs.Prelude.{◌⊎◌}
use Rattle.std.proofs.lemmas.Bool.{cases_eq}
use Rattle.std.proofs.lemmas.List.{length-append}
use Rattle.cbor_profile.specs.declared.fault.CborFault.{CborFault}
use Rattle.cbor_profile.specs.declared.fault.CborFault.TheVariants.{Short, Reserved, Unsupported, Deep}
use Rattle.cbor_profile.specs.declared.major.Major.{Major}
use Rattle.cbor_profile.specs.declared.major.Major.TheVariants as major_type
use Rattle.cbor_profile.specs.declared.head.Start.{Start}
use Rattle.cbor_profile.specs.Parts.{number_of}
use Rattle.cbor_profile.specs.Tree.{Tree, unsigned, negative, byte_string, text, array, mapping, tag, items_of, pairs_of}
use Rattle.cbor_profile.specs.Spelling.{begin, SpellsWithin}
use Rattle.cbor_profile.specs.Breaking.{IsReserved, IsUnsupported, IsNesting, BreaksPlain, BreaksNest, GoesOn, IsNumber, IsStringType, BreaksWithin}
use Rattle.cbor_profile.specs.ItemReading.{parts_of, Read, ◌>>=◌, argument_at, string_at, parts_at, items_at, open_items_at, pairs_at, open_pairs_at, major_of, start_of, simple, value_at, indefinite_at, begun_at, item_at}
use Rattle.cbor_profile.proofs.Results.{bind_err, err_is, not_both, broken}
use Rattle.cbor_profile.proofs.Firsts.{HasArgument, item_begins, nothing_short}
use Rattle.cbor_profile.proofs.Beginnings.{byte_is, HasOpen, Begins, begins}
use Rattle.cbor_profile.proofs.Nested.{within_starts}
use Rattle.cbor_profile.proofs.Taken.{Argument, argument_taken}
use Rattle.cbor_profile.proofs.Spelled.{within_taken}
use Rattle.cbor_profile.proofs.Sound.{ShortBytes, short_rest, within_sound}
use Rattle.cbor_profile.proofs.Faults.{cut, string_broken, parts_broken, head_of}
use Rattle.cbor_profile.proofs.PartFaults.{Faults, items_broken, open_items_broken, pairs_broken, open_pairs_broken, pairs_break}

abbrev whole : Tree × List ℕ → Read Tree
whole x = Ok x

plain_breaks : (levels at : ℕ) (bytes : List ℕ) (f : CborFault) → BreaksPlain at bytes f → BreaksWithin levels at bytes f
unfolding BreaksWithin
plain_breaks zero at bytes f b = inl b
plain_breaks (suc levels) at bytes f b = inl b

nest_breaks : (levels at : ℕ) (bytes : List ℕ) (f : CborFault) → BreaksNest (SpellsWithin levels) (BreaksWithin levels) at bytes f → BreaksWithin (suc levels) at bytes f
unfolding BreaksWithin
nest_breaks levels at bytes f b = inr b

deep_breaks : (at first : ℕ) (more : List ℕ) (f : CborFault) → IsNesting first → f ≡ Deep at → BreaksWithin zero at (first ∷ more) f
unfolding BreaksWithin
deep_breaks at first more f nesting is = inr (record { first = first; more = more; is = refl; nesting = nesting; fault_is = is })

deep_is : {A : Type 0} (at : ℕ) (f : CborFault) → broken {A = A} (Deep at) ≡ broken f → f ≡ Deep at
deep_is {A} at f e = sym (err_is {A = A} (Deep at) f e)

-- what is known of the parts of an item
abbrev Inner : ℕ → ℕ → Type 0
Inner zero end = Unit {0}
Inner (suc levels) end = Faults (BreaksWithin levels) (item_at levels end) end

short_tail : (first : ℕ) (more : List ℕ) → ShortBytes (first ∷ more) → ShortBytes more
short_tail first more held = short_rest (first ∷ more) (first ∷ []) more held refl

number_broken : (levels end at major info : ℕ) (more : List ℕ) (t : ℕ → Tree) (f : CborFault) → IsNumber major → at + suc (length more) ≡ end → info < 28 → (argument_at end info more >>= λ n. whole (t n.0, n.1)) ≡ Err f
    → BreaksWithin levels at ((32 * major + info) ∷ more) f
number_broken levels end at major info more t f is h lt e = elim (bind_err (argument_at end info more) (λ n. whole (t n.0, n.1)) f e) [
  | inl short ↦ let c = cut end at major info more f h lt short in plain_breaks levels at _ f (BreaksPlain.number major is c.0 c.1)
  | inr good ↦ absurd (not_both _ f good.2)
]

text_broken : (levels end at : ℕ) (a : Major) (info : ℕ) (more : List ℕ) (t : List ℕ → Tree) (f : CborFault) → IsStringType (number_of a) → at + suc (length more) ≡ end → info < 28
    → (string_at end at a info more >>= λ s. whole (t s.0, s.1)) ≡ Err f → BreaksWithin levels at ((32 * number_of a + info) ∷ more) f
text_broken levels end at a info more t f is h lt e = elim (bind_err (string_at end at a info more) (λ s. whole (t s.0, s.1)) f e) [
  | inl bad ↦ plain_breaks levels at _ f (BreaksPlain.string (number_of a) is (string_broken end at a info more f h lt bad))
  | inr good ↦ absurd (not_both _ f good.2)
]

head_end : (at end major info n : ℕ) (more rest : List ℕ) (arg : Argument info n more rest) → at + suc (length more) ≡ end → at + length ((32 * major + info) ∷ arg.following) + length rest ≡ end
head_end at end major info n more rest arg h = let l = ap length arg.is in let m = length-append arg.following rest in omega arith

head_rest : (major info n : ℕ) (more rest : List ℕ) (arg : Argument info n more rest) → (32 * major + info) ∷ more ≡ ((32 * major + info) ∷ arg.following) ++ rest
head_rest major info n more rest arg = ap (λ (l : List ℕ). (32 * major + info) ∷ l) arg.is

array_broken : (levels end at info : ℕ) (more : List ℕ) (f : CborFault) → Faults (BreaksWithin levels) (item_at levels end) end → ShortBytes more → at + suc (length more) ≡ end → info < 28
    → (argument_at end info more >>= λ n. items_at (item_at levels end) n.0 n.1 >>= λ ts. whole (array (items_of ts.0), ts.1)) ≡ Err f → BreaksWithin (suc levels) at ((32 * 4 + info) ∷ more) f
array_broken levels end at info more f inner held h lt e =
    let read = item_at levels end in
    elim (bind_err (argument_at end info more) (λ n. items_at read n.0 n.1 >>= λ ts. whole (array (items_of ts.0), ts.1)) f e) [
      | inl short ↦ let c = cut end at 4 info more f h lt short in nest_breaks levels at _ f (BreaksNest.argument 4 (omega arith) (omega arith) c.0 c.1)
      | inr next ↦
          let n = next.0 in
          let arg = argument_taken end info more n lt next.1 in
          let head : List ℕ = (32 * 4 + info) ∷ arg.following in
          elim (bind_err (items_at read n.0 n.1) (λ ts. whole (array (items_of ts.0), ts.1)) f next.2) [
            | inl bad ↦
                let b = items_broken (SpellsWithin levels) (BreaksWithin levels) read end (within_starts levels end) (within_taken levels end) inner (nothing_short levels end) n.0 (at + length head) n.1 f
                (short_rest more arg.following n.1 held arg.is) (head_end at end 4 info n.0 more n.1 arg h) bad in
                nest_breaks levels at _ f (
                BreaksNest.item (b.0).ts head (b.0).content (b.0).more (GoesOn.definite n.0 b.1 (head_of 4 info n.0 more n.1 arg))
                (head_rest 4 info n.0 more n.1 arg ∙ ap (λ (l : List ℕ). head ++ l) (b.0).is) (b.0).items (b.0).breaks
                )
            | inr good ↦ absurd (not_both _ f good.2)
          ]
    ]

map_broken : (levels end at info : ℕ) (more : List ℕ) (f : CborFault) → Faults (BreaksWithin levels) (item_at levels end) end → ShortBytes more → at + suc (length more) ≡ end → info < 28
    → (argument_at end info more >>= λ n. pairs_at (item_at levels end) end n.0 [] n.1 >>= λ ps. whole (mapping (pairs_of ps.0), ps.1)) ≡ Err f → BreaksWithin (suc levels) at ((32 * 5 + info) ∷ more) f
map_broken levels end at info more f inner held h lt e =
    let read = item_at levels end in
    elim (bind_err (argument_at end info more) (λ n. pairs_at read end n.0 [] n.1 >>= λ ps. whole (mapping (pairs_of ps.0), ps.1)) f e) [
      | inl short ↦ let c = cut end at 5 info more f h lt short in nest_breaks levels at _ f (BreaksNest.argument 5 (omega arith) (omega arith) c.0 c.1)
      | inr next ↦
          let n = next.0 in
          let arg = argument_taken end info more n lt next.1 in
          let head : List ℕ = (32 * 5 + info) ∷ arg.following in
          elim (bind_err (pairs_at read end n.0 [] n.1) (λ ps. whole (mapping (pairs_of ps.0), ps.1)) f next.2) [
            | inl bad ↦
                let behind = short_rest more arg.following n.1 held arg.is in
                let b = pairs_broken (SpellsWithin levels) (BreaksWithin levels) read end (within_starts levels end) (within_taken levels end) inner (nothing_short levels end) n.0 [] (at + length head) n.1 f
                behind (head_end at end 5 info n.0 more n.1 arg h) bad in
                let p = pairs_break levels (SpellsWithin levels) (BreaksWithin levels) (within_starts levels end) (within_sound levels) (at + length head) n.1 f b.0 behind in
                nest_breaks levels at _ f (
                BreaksNest.pair (b.0).read head (b.0).content (b.0).more (GoesOn.definite n.0 b.1 (head_of 5 info n.0 more n.1 arg))
                (head_rest 5 info n.0 more n.1 arg ∙ ap (λ (l : List ℕ). head ++ l) (b.0).is) (b.0).pairs p.0 p.1
                )
            | inr good ↦ absurd (not_both _ f good.2)
          ]
    ]

tag_broken : (levels end at info : ℕ) (more : List ℕ) (f : CborFault) → Faults (BreaksWithin levels) (item_at levels end) end → ShortBytes more → at + suc (length more) ≡ end → info < 28
    → (argument_at end info more >>= λ n. item_at levels end n.1 >>= λ t. whole (tag n.0 t.0, t.1)) ≡ Err f → BreaksWithin (suc levels) at ((32 * 6 + info) ∷ more) f
tag_broken levels end at info more f inner held h lt e =
    elim (bind_err (argument_at end info more) (λ n. item_at levels end n.1 >>= λ t. whole (tag n.0 t.0, t.1)) f e) [
      | inl short ↦ let c = cut end at 6 info more f h lt short in nest_breaks levels at _ f (BreaksNest.argument 6 (omega arith) (omega arith) c.0 c.1)
      | inr next ↦
          let n = next.0 in
          let arg = argument_taken end info more n lt next.1 in
          let head : List ℕ = (32 * 6 + info) ∷ arg.following in
          elim (bind_err (item_at levels end n.1) (λ t. whole (tag n.0 t.0, t.1)) f next.2) [
            | inl bad ↦
                let b = inner (at + length head) n.1 f (short_rest more arg.following n.1 held arg.is) (head_end at end 6 info n.0 more n.1 arg h) bad in
                nest_breaks levels at _ f (BreaksNest.tagged n.0 head n.1 (head_of 6 info n.0 more n.1 arg) (head_rest 6 info n.0 more n.1 arg) b)
            | inr good ↦ absurd (not_both _ f good.2)
          ]
    ]

nesting : (major info : ℕ) → 4 ≤ major → major ≤ 6 → info < 28 → IsNesting (32 * major + info)
nesting major info least most lt = IsNesting.definite major info least most lt refl

value_broken : (levels end at : ℕ) (a : Major) (info : ℕ) (more : List ℕ) (f : CborFault) → Inner levels end → ShortBytes more → at + suc (length more) ≡ end → HasArgument a → info < 28
    → value_at (parts_of levels end) end at a info more ≡ Err f → BreaksWithin levels at ((32 * number_of a + info) ∷ more) f
unfolding value_at
value_broken levels end at major_type.Unsigned info more f inner held h has lt e = number_broken levels end at 0 info more unsigned f (inl refl) h lt e
value_broken levels end at major_type.Negative info more f inner held h has lt e = number_broken levels end at 1 info more negative f (inr refl) h lt e
value_broken levels end at major_type.Bytes info more f inner held h has lt e = text_broken levels end at major_type.Bytes info more byte_string f (inl refl) h lt e
value_broken levels end at major_type.Text info more f inner held h has lt e = text_broken levels end at major_type.Text info more text f (inr refl) h lt e
value_broken zero end at major_type.Array info more f inner held h has lt e = deep_breaks at _ more f (nesting 4 info (omega arith) (omega arith) lt) (deep_is {A = Tree × List ℕ} at f e)
value_broken (suc levels) end at major_type.Array info more f inner held h has lt e = array_broken levels end at info more f inner held h lt e
value_broken zero end at major_type.Map info more f inner held h has lt e = deep_breaks at _ more f (nesting 5 info (omega arith) (omega arith) lt) (deep_is {A = Tree × List ℕ} at f e)
value_broken (suc levels) end at major_type.Map info more f inner held h has lt e = map_broken levels end at info more f inner held h lt e
value_broken zero end at major_type.Tag info more f inner held h has lt e = deep_breaks at _ more f (nesting 6 info (omega arith) (omega arith) lt) (deep_is {A = Tree × List ℕ} at f e)
value_broken (suc levels) end at major_type.Tag info more f inner held h has lt e = tag_broken levels end at info more f inner held h lt e
value_broken levels end at major_type.Simple info more f inner held h has lt e = absurd has

open_text_broken : (levels end at : ℕ) (a : Major) (more : List ℕ) (t : List ℕ → Tree) (f : CborFault) → IsStringType (number_of a) → at + suc (length more) ≡ end
    → (parts_at (length more) end a more >>= λ s. whole (t s.0, s.1)) ≡ Err f → BreaksWithin levels at (begin (number_of a) ∷ more) f
open_text_broken levels end at a more t f is h e = elim (bind_err (parts_at (length more) end a more) (λ s. whole (t s.0, s.1)) f e) [
  | inl bad ↦
      let b = parts_broken (length more) end (at + 1) a more f (omega arith) (omega arith) bad in
      plain_breaks levels at _ f (BreaksPlain.parts (number_of a) b.parts b.string b.content b.more is b.are (ap (λ (l : List ℕ). begin (number_of a) ∷ l) b.is) b.breaks)
  | inr good ↦ absurd (not_both _ f good.2)
]

open_array_broken : (levels end at : ℕ) (more : List ℕ) (f : CborFault) → Faults (BreaksWithin levels) (item_at levels end) end → ShortBytes more → at + suc (length more) ≡ end
    → (open_items_at (item_at levels end) (length more) end more >>= λ ts. whole (array (items_of ts.0), ts.1)) ≡ Err f → BreaksWithin (suc levels) at (begin 4 ∷ more) f
open_array_broken levels end at more f inner held h e = elim (bind_err (open_items_at (item_at levels end) (length more) end more) (λ ts. whole (array (items_of ts.0), ts.1)) f e) [
  | inl bad ↦
      let b = open_items_broken (SpellsWithin levels) (BreaksWithin levels) (item_at levels end) end (within_starts levels end) (within_taken levels end) inner (nothing_short levels end) (length more) (at + 1) more f held (omega arith) (omega arith) bad in
      nest_breaks levels at _ f (BreaksNest.item (b.0).ts (begin 4 ∷ []) (b.0).content (b.0).more (GoesOn.indefinite refl b.1) (ap (λ (l : List ℕ). begin 4 ∷ l) (b.0).is) (b.0).items (b.0).breaks)
  | inr good ↦ absurd (not_both _ f good.2)
]

open_map_broken : (levels end at : ℕ) (more : List ℕ) (f : CborFault) → Faults (BreaksWithin levels) (item_at levels end) end → ShortBytes more → at + suc (length more) ≡ end
    → (open_pairs_at (item_at levels end) (length more) end [] more >>= λ ps. whole (mapping (pairs_of ps.0), ps.1)) ≡ Err f → BreaksWithin (suc levels) at (begin 5 ∷ more) f
open_map_broken levels end at more f inner held h e = elim (bind_err (open_pairs_at (item_at levels end) (length more) end [] more) (λ ps. whole (mapping (pairs_of ps.0), ps.1)) f e) [
  | inl bad ↦
      let b = open_pairs_broken (SpellsWithin levels) (BreaksWithin levels) (item_at levels end) end (within_starts levels end) (within_taken levels end) inner (nothing_short levels end) (length more) [] (at + 1) more f held (omega arith) (omega arith) bad in
      let p = pairs_break levels (SpellsWithin levels) (BreaksWithin levels) (within_starts levels end) (within_sound levels) (at + 1) more f b.0 held in
      nest_breaks levels at _ f (BreaksNest.pair (b.0).read (begin 5 ∷ []) (b.0).content (b.0).more (GoesOn.indefinite refl b.1) (ap (λ (l : List ℕ). begin 5 ∷ l) (b.0).is) (b.0).pairs p.0 p.1)
  | inr good ↦ absurd (not_both _ f good.2)
]

open_broken : (levels end at : ℕ) (a : Major) (more : List ℕ) (f : CborFault) → Inner levels end → ShortBytes more → at + suc (length more) ≡ end → HasOpen a → indefinite_at (parts_of levels end) end at a more ≡ Err f
    → BreaksWithin levels at (begin (number_of a) ∷ more) f
unfolding indefinite_at
open_broken levels end at major_type.Bytes more f inner held h has e = open_text_broken levels end at major_type.Bytes more byte_string f (inl refl) h e
open_broken levels end at major_type.Text more f inner held h has e = open_text_broken levels end at major_type.Text more text f (inr refl) h e
open_broken zero end at major_type.Array more f inner held h has e = deep_breaks at _ more f (IsNesting.array refl) (deep_is {A = Tree × List ℕ} at f e)
open_broken (suc levels) end at major_type.Array more f inner held h has e = open_array_broken levels end at more f inner held h e
open_broken zero end at major_type.Map more f inner held h has e = deep_breaks at _ more f (IsNesting.mapping refl) (deep_is {A = Tree × List ℕ} at f e)
open_broken (suc levels) end at major_type.Map more f inner held h has e = open_map_broken levels end at more f inner held h e
open_broken levels end at major_type.Unsigned more f inner held h has e = absurd has
open_broken levels end at major_type.Negative more f inner held h has e = absurd has
open_broken levels end at major_type.Tag more f inner held h has e = absurd has
open_broken levels end at major_type.Simple more f inner held h has e = absurd has

closed_reserved : (a : Major) (first : ℕ) → first ≡ begin (number_of a) → (HasOpen a → ⊥) → IsReserved first
closed_reserved major_type.Unsigned first is shut = IsReserved.unsigned is
closed_reserved major_type.Negative first is shut = IsReserved.negative is
closed_reserved major_type.Tag first is shut = IsReserved.tag is
closed_reserved major_type.Simple first is shut = IsReserved.ending is
closed_reserved major_type.Bytes first is shut = absurd (shut tt)
closed_reserved major_type.Text first is shut = absurd (shut tt)
closed_reserved major_type.Array first is shut = absurd (shut tt)
closed_reserved major_type.Map first is shut = absurd (shut tt)

reserved_is : (a : Major) (info : ℕ) → 28 ≤ info → (info ≤ 30) ⊎ ((info ≡ 31) × (HasOpen a → ⊥)) → IsReserved (32 * number_of a + info)
reserved_is a info least (inl most) = IsReserved.information (omega arith) (omega arith)
reserved_is a info least (inr last) = closed_reserved a (32 * number_of a + info) (omega (arith, last.0)) last.1

unsupported_high : (info : ℕ) → 22 < info → info < 28 → (info ≡ 23) ⊎ (info ≡ 23 → ⊥) → IsUnsupported (32 * 7 + info)
unsupported_high info least most (inl is) = IsUnsupported.undefined (omega arith)
unsupported_high info least most (inr other) = IsUnsupported.wide (omega arith) (omega arith)

unsupported_is : (info : ℕ) → (info < 20) ⊎ ((22 < info) × (info < 28)) → IsUnsupported (32 * 7 + info)
unsupported_is info (inl low) = IsUnsupported.simple (omega arith) (omega arith)
unsupported_is info (inr high) = unsupported_high info high.0 high.1 (cases_eq info 23)

simple_reads : (parts : Option (List ℕ → Read Tree)) (end at info : ℕ) (more : List ℕ) → value_at parts end at major_type.Simple info more ≡ Ok (simple info, more)
unfolding value_at
simple_reads parts end at info more = refl

begun_broken : (levels end at : ℕ) (a : Major) (info : ℕ) (s : Start) (more : List ℕ) (f : CborFault) → Inner levels end → ShortBytes more → at + suc (length more) ≡ end → Begins a info s
    → begun_at (parts_of levels end) end at s more ≡ Err f → BreaksWithin levels at ((32 * number_of a + info) ∷ more) f
unfolding begun_at
begun_broken levels end at a info s more f inner held h kind e =
    let parts = parts_of levels end in
    elim kind [
      | Begins.value has lt is ↦ value_broken levels end at a info more f inner held h has lt (sym (ap (λ (t : Start). begun_at parts end at t more) is) ∙ e)
      | Begins.indefinite has last is ↦
          subst (λ (i : ℕ). BreaksWithin levels at ((32 * number_of a + i) ∷ more) f) (sym last)
          (open_broken levels end at a more f inner held h has (sym (ap (λ (t : Start). begun_at parts end at t more) is) ∙ e))
      | Begins.simple same least most is ↦ absurd (not_both _ f (sym (simple_reads parts end at info more) ∙ sym (ap (λ (t : Start). begun_at parts end at t more) is) ∙ e))
      | Begins.unsupported same which is ↦
          let fault = err_is {A = Tree × List ℕ} (Unsupported at) f (sym (ap (λ (t : Start). begun_at parts end at t more) is) ∙ e) in
          let first : IsUnsupported (32 * number_of a + info) = subst (λ (b : Major). IsUnsupported (32 * number_of b + info)) (sym same) (unsupported_is info which) in
          plain_breaks levels at _ f (BreaksPlain.unsupported _ more refl first (sym fault))
      | Begins.reserved least which is ↦
          let fault = err_is {A = Tree × List ℕ} (Reserved at) f (sym (ap (λ (t : Start). begun_at parts end at t more) is) ∙ e) in
          plain_breaks levels at _ f (BreaksPlain.reserved _ more refl (reserved_is a info least which) (sym fault))
    ]

item_broken : (levels end : ℕ) → Inner levels end → Faults (BreaksWithin levels) (item_at levels end) end
item_broken levels end inner at [] f held h e =
    let is = err_is {A = Tree × List ℕ} (Short end) f (sym (nothing_short levels end) ∙ e) in
    plain_breaks levels at [] f (BreaksPlain.short refl (sym is ∙ ap Short (omega arith)))
item_broken levels end inner at (first ∷ more) f held h e =
    let a : Major = major_of (first / 32) in
    let place : end - suc (length more) ≡ at = omega arith in
    let begun = sym (item_begins levels end first more (start_of first) refl) ∙ e in
    let here = subst (λ (p : ℕ). begun_at (parts_of levels end) end p (start_of first) more ≡ Err f) place begun in
    let made = begun_broken levels end at a (first % 32) (start_of first) more f inner (short_tail first more held) h (begins a (first % 32) (omega arith)) here in
    subst (λ (b : ℕ). BreaksWithin levels at (b ∷ more) f) (sym (byte_is first (held.each).0)) made

pub within_broken : (levels end : ℕ) → Faults (BreaksWithin levels) (item_at levels end) end
within_broken zero end = item_broken zero end tt
within_broken (suc levels) end = item_broken (suc levels) end (within_broken levels end)
