-- What breaks is not read, however deep it nests, and the fault is that.
use Rattle.std.proofs.Common.{◌≡◌, ℕ, zero, suc, ◌+◌, ◌*◌, ◌-◌, ◌<◌, ◌≤◌, List, [], ◌∷◌, ◌++◌, length, Some, None, Ok, Err, refl, sym, ap, ◌∙◌, subst, inl, inr, arith}
use Rattle.std.specs.Prelude.{◌⊎◌}
use Rattle.std.proofs.lemmas.Bool.{cases_eq}
use Rattle.std.proofs.lemmas.List.{length-append}
use Rattle.cbor_profile.specs.declared.fault.CborFault.{CborFault}
use Rattle.cbor_profile.specs.declared.fault.CborFault.TheVariants.{Short, Deep}
use Rattle.cbor_profile.specs.declared.major.Major.{Major}
use Rattle.cbor_profile.specs.declared.major.Major.TheVariants as major_type
use Rattle.cbor_profile.specs.declared.head.Start.TheVariants as start
use Rattle.cbor_profile.specs.Parts.{number_of}
use Rattle.cbor_profile.specs.Tree.{Tree, unsigned, negative, byte_string, text, array, mapping, tag, items_of, pairs_of}
use Rattle.cbor_profile.specs.Spelling.{begin, AreParts, SpellsItems, SpellsPairs, SpellsWithin}
use Rattle.cbor_profile.specs.Breaking.{IsNesting, IsCut, BreaksString, BreaksPart, BreaksPlain, BreaksPair, BreaksNest, GoesOn, AreDistinct, IsDeep, IsNumber, IsStringType, BreaksWithin}
use Rattle.cbor_profile.specs.ItemReading.{parts_of, Read, argument_at, string_at, parts_at, items_at, open_items_at, pairs_at, open_pairs_at, start_of, start_with, value_at, indefinite_at, item_at}
use Rattle.cbor_profile.proofs.Firsts.{HasArgument, value_begins, open_begins, nothing_short}
use Rattle.cbor_profile.proofs.Again.{argument_again, head_begins, IsStringMajor}
use Rattle.cbor_profile.proofs.Nested.{within_again, within_starts}
use Rattle.cbor_profile.proofs.Keys.{distinct_runs}
use Rattle.cbor_profile.proofs.Sound.{ShortBytes, short_front, short_rest, within_sound}
use Rattle.cbor_profile.proofs.Faults.{end_after}
use Rattle.cbor_profile.proofs.PartFaults.{read_sounds}
use Rattle.cbor_profile.proofs.Refused.{Refuse, short_end, first_reserved, first_unsupported, reserved_refused, unsupported_refused, argument_refused, string_refused, parts_refused, items_refused, open_items_refused, pairs_refused, open_pairs_refused, pair_refused}

abbrev tree_fault : CborFault → Read Tree
tree_fault f = Err f

-- a head whose argument is cut off
cut_refused : (levels end at : ℕ) (a : Major) (bytes : List ℕ) (f : CborFault) → HasArgument a → at + length bytes ≡ end → IsCut (number_of a) bytes → f ≡ Short (at + length bytes)
    → ((at info : ℕ) (more : List ℕ) → argument_at end info more ≡ Err (Short end) → value_at (parts_of levels end) end at a info more ≡ Err (Short end)) → item_at levels end bytes ≡ Err f
cut_refused levels end at a bytes f has h cut is value =
    let e = argument_refused end cut.info cut.more cut.least cut.short in
    ap (item_at levels end) cut.is ∙ value_begins levels end a cut.info cut.more has cut.most ∙ value _ cut.info cut.more e ∙ ap tree_fault (sym (short_end at end bytes f h is))

unsigned_cut : (levels end at info : ℕ) (more : List ℕ) → argument_at end info more ≡ Err (Short end) → value_at (parts_of levels end) end at major_type.Unsigned info more ≡ Err (Short end)
unfolding value_at
unsigned_cut levels end at info more e = rw e refl

negative_cut : (levels end at info : ℕ) (more : List ℕ) → argument_at end info more ≡ Err (Short end) → value_at (parts_of levels end) end at major_type.Negative info more ≡ Err (Short end)
unfolding value_at
negative_cut levels end at info more e = rw e refl

array_cut : (levels end at info : ℕ) (more : List ℕ) → argument_at end info more ≡ Err (Short end) → value_at (parts_of (suc levels) end) end at major_type.Array info more ≡ Err (Short end)
unfolding value_at
array_cut levels end at info more e = rw e refl

map_cut : (levels end at info : ℕ) (more : List ℕ) → argument_at end info more ≡ Err (Short end) → value_at (parts_of (suc levels) end) end at major_type.Map info more ≡ Err (Short end)
unfolding value_at
map_cut levels end at info more e = rw e refl

tag_cut : (levels end at info : ℕ) (more : List ℕ) → argument_at end info more ≡ Err (Short end) → value_at (parts_of (suc levels) end) end at major_type.Tag info more ≡ Err (Short end)
unfolding value_at
tag_cut levels end at info more e = rw e refl

-- strings
text_refused : (levels end at : ℕ) (a : Major) (bytes : List ℕ) (f : CborFault) → HasArgument a → at + length bytes ≡ end → BreaksString (number_of a) at bytes f
    → ((info : ℕ) (more : List ℕ) → string_at end at a info more ≡ Err f → value_at (parts_of levels end) end at a info more ≡ Err f) → item_at levels end bytes ≡ Err f
text_refused levels end at a bytes f has h b value =
    let s = string_refused a end at bytes f h b in
    let place : end - suc (length s.more) ≡ at = let l = ap length s.is in omega arith in
    ap (item_at levels end) s.is ∙ value_begins levels end a s.info s.more has s.small ∙ ap (λ (p : ℕ). value_at (parts_of levels end) end p a s.info s.more) place ∙ value s.info s.more s.refused

bytes_value : (levels end at info : ℕ) (more : List ℕ) (f : CborFault) → string_at end at major_type.Bytes info more ≡ Err f → value_at (parts_of levels end) end at major_type.Bytes info more ≡ Err f
unfolding value_at
bytes_value levels end at info more f e = rw e refl

text_value : (levels end at info : ℕ) (more : List ℕ) (f : CborFault) → string_at end at major_type.Text info more ≡ Err f → value_at (parts_of levels end) end at major_type.Text info more ≡ Err f
unfolding value_at
text_value levels end at info more f e = rw e refl

open_text_refused : (levels end at : ℕ) (a : Major) (bytes : List ℕ) (f : CborFault) (parts : List (List ℕ)) (string content more : List ℕ) → IsStringMajor a → start_of (begin (number_of a)) ≡ start.Indefinite a → at + length bytes ≡ end
    → AreParts (number_of a) parts string content → bytes ≡ begin (number_of a) ∷ (content ++ more) → BreaksPart (number_of a) (at + 1 + length content) more f
    → ((at : ℕ) (more : List ℕ) → parts_at (length more) end a more ≡ Err f → indefinite_at (parts_of levels end) end at a more ≡ Err f) → item_at levels end bytes ≡ Err f
open_text_refused levels end at a bytes f parts string content more kind begins h are is b value =
    let l = ap length is in
    let e = parts_refused parts (length (content ++ more)) end (at + 1) a string content more f kind are (omega arith) (omega arith) b in
    ap (item_at levels end) is ∙ open_begins levels end (begin (number_of a)) a (content ++ more) begins ∙ value _ (content ++ more) e

open_bytes_value : (levels end : ℕ) (f : CborFault) (at : ℕ) (more : List ℕ) → parts_at (length more) end major_type.Bytes more ≡ Err f → indefinite_at (parts_of levels end) end at major_type.Bytes more ≡ Err f
unfolding indefinite_at
open_bytes_value levels end f at more e = rw e refl

open_text_value : (levels end : ℕ) (f : CborFault) (at : ℕ) (more : List ℕ) → parts_at (length more) end major_type.Text more ≡ Err f → indefinite_at (parts_of levels end) end at major_type.Text more ≡ Err f
unfolding indefinite_at
open_text_value levels end f at more e = rw e refl

number_refused : (levels end at major : ℕ) (bytes : List ℕ) (f : CborFault) → IsNumber major → at + length bytes ≡ end → IsCut major bytes → f ≡ Short (at + length bytes) → item_at levels end bytes ≡ Err f
number_refused levels end at major bytes f (inl zero_is) h cut is =
    cut_refused levels end at major_type.Unsigned bytes f tt h (subst (λ (m : ℕ). IsCut m bytes) zero_is cut) is (unsigned_cut levels end)
number_refused levels end at major bytes f (inr one_is) h cut is =
    cut_refused levels end at major_type.Negative bytes f tt h (subst (λ (m : ℕ). IsCut m bytes) one_is cut) is (negative_cut levels end)

definite_refused : (levels end at major : ℕ) (bytes : List ℕ) (f : CborFault) → IsStringType major → at + length bytes ≡ end → BreaksString major at bytes f → item_at levels end bytes ≡ Err f
definite_refused levels end at major bytes f (inl is) h b =
    text_refused levels end at major_type.Bytes bytes f tt h (subst (λ (m : ℕ). BreaksString m at bytes f) is b) (λ info more e. bytes_value levels end at info more f e)
definite_refused levels end at major bytes f (inr is) h b =
    text_refused levels end at major_type.Text bytes f tt h (subst (λ (m : ℕ). BreaksString m at bytes f) is b) (λ info more e. text_value levels end at info more f e)

indefinite_refused : (levels end at major : ℕ) (bytes : List ℕ) (f : CborFault) (parts : List (List ℕ)) (string content more : List ℕ) → IsStringType major → at + length bytes ≡ end
    → AreParts major parts string content → bytes ≡ begin major ∷ (content ++ more) → BreaksPart major (at + 1 + length content) more f → item_at levels end bytes ≡ Err f
unfolding start_with
indefinite_refused levels end at major bytes f parts string content more (inl two) h are is b =
    open_text_refused levels end at major_type.Bytes bytes f parts string content more tt refl h (subst (λ (m : ℕ). AreParts m parts string content) two are) (is ∙ ap (λ (m : ℕ). begin m ∷ (content ++ more)) two)
    (subst (λ (m : ℕ). BreaksPart m (at + 1 + length content) more f) two b) (open_bytes_value levels end f)
indefinite_refused levels end at major bytes f parts string content more (inr three) h are is b =
    open_text_refused levels end at major_type.Text bytes f parts string content more tt refl h (subst (λ (m : ℕ). AreParts m parts string content) three are) (is ∙ ap (λ (m : ℕ). begin m ∷ (content ++ more)) three)
    (subst (λ (m : ℕ). BreaksPart m (at + 1 + length content) more f) three b) (open_text_value levels end f)

plain_refused : (levels end at : ℕ) (bytes : List ℕ) (f : CborFault) → at + length bytes ≡ end → BreaksPlain at bytes f → item_at levels end bytes ≡ Err f
plain_refused levels end at bytes f h b = elim b [
  | BreaksPlain.short empty is ↦
      let e : end ≡ at = sym h ∙ ap (λ (l : List ℕ). at + length l) empty ∙ omega arith in
      ap (item_at levels end) empty ∙ nothing_short levels end ∙ ap (λ (p : ℕ). tree_fault (Short p)) e ∙ ap tree_fault (sym is)
  | BreaksPlain.reserved first more is reserved e ↦
      ap (item_at levels end) is ∙ reserved_refused levels end at first more (let l = ap length is in omega arith) (first_reserved first reserved) ∙ ap tree_fault (sym e)
  | BreaksPlain.unsupported first more is unsupported e ↦
      ap (item_at levels end) is ∙ unsupported_refused levels end at first more (let l = ap length is in omega arith) (first_unsupported first unsupported) ∙ ap tree_fault (sym e)
  | BreaksPlain.number major number cut is ↦ number_refused levels end at major bytes f number h cut is
  | BreaksPlain.string major kind s ↦ definite_refused levels end at major bytes f kind h s
  | BreaksPlain.parts major parts string content more kind are is part ↦ indefinite_refused levels end at major bytes f parts string content more kind h are is part
]

-- ---- what nests too deep

deep_value : (end at info : ℕ) (a : Major) (more : List ℕ) → HasArgument a → 4 ≤ number_of a → value_at None end at a info more ≡ Err (Deep at)
unfolding value_at
deep_value end at info major_type.Array more has least = refl
deep_value end at info major_type.Map more has least = refl
deep_value end at info major_type.Tag more has least = refl
deep_value end at info major_type.Unsigned more has least = absurd (omega arith)
deep_value end at info major_type.Negative more has least = absurd (omega arith)
deep_value end at info major_type.Bytes more has least = absurd (omega arith)
deep_value end at info major_type.Text more has least = absurd (omega arith)
deep_value end at info major_type.Simple more has least = absurd has

deep_definite : (end at info : ℕ) (a : Major) (first : ℕ) (more : List ℕ) → HasArgument a → 4 ≤ number_of a → info < 28 → first ≡ 32 * number_of a + info → at + suc (length more) ≡ end → item_at zero end (first ∷ more) ≡ Err (Deep at)
deep_definite end at info a first more has least lt is h =
    ap (λ (b : ℕ). item_at zero end (b ∷ more)) is ∙ value_begins zero end a info more has lt ∙ ap (λ (p : ℕ). value_at None end p a info more) (omega arith) ∙ deep_value end at info a more has least

deep_open : (end at : ℕ) (more : List ℕ) → (indefinite_at None end at major_type.Array more ≡ Err (Deep at)) × (indefinite_at None end at major_type.Map more ≡ Err (Deep at))
unfolding indefinite_at
deep_open end at more = (refl, refl)

deep_major : (major : ℕ) → 4 ≤ major → major ≤ 6 → (a : Major) × (major ≡ number_of a) × HasArgument a
deep_major major least most = elim (cases_eq major 4) [
  | inl is ↦ (major_type.Array, is, tt)
  | inr other ↦ elim (cases_eq major 5) [
    | inl is ↦ (major_type.Map, is, tt)
    | inr last ↦ (major_type.Tag, omega arith, tt)
  ]
]

deep_refused : (end at first : ℕ) (more : List ℕ) → at + suc (length more) ≡ end → IsNesting first → item_at zero end (first ∷ more) ≡ Err (Deep at)
unfolding start_with
deep_refused end at first more h nesting = elim nesting [
  | IsNesting.definite major info least most lt is ↦
      let a = deep_major major least most in
      let same = a.1 in
      deep_definite end at info a.0 first more a.2 (omega arith) lt (is ∙ ap (λ (m : ℕ). 32 * m + info) a.1) h
  | IsNesting.array is ↦
      ap (λ (b : ℕ). item_at zero end (b ∷ more)) is ∙ open_begins zero end (begin 4) major_type.Array more refl ∙ ap (λ (p : ℕ). indefinite_at None end p major_type.Array more) (omega arith) ∙ (deep_open end at more).0
  | IsNesting.mapping is ↦
      ap (λ (b : ℕ). item_at zero end (b ∷ more)) is ∙ open_begins zero end (begin 5) major_type.Map more refl ∙ ap (λ (p : ℕ). indefinite_at None end p major_type.Map more) (omega arith) ∙ (deep_open end at more).1
]

-- ---- parts

array_value : (levels end at info n : ℕ) (following rest : List ℕ) (f : CborFault) → argument_at end info (following ++ rest) ≡ Ok (n, rest) → items_at (item_at levels end) n rest ≡ Err f
    → value_at (Some (item_at levels end)) end at major_type.Array info (following ++ rest) ≡ Err f
unfolding value_at
array_value levels end at info n following rest f first second = rw (first, second) refl

map_value : (levels end at info n : ℕ) (following rest : List ℕ) (f : CborFault) → argument_at end info (following ++ rest) ≡ Ok (n, rest) → pairs_at (item_at levels end) end n [] rest ≡ Err f
    → value_at (Some (item_at levels end)) end at major_type.Map info (following ++ rest) ≡ Err f
unfolding value_at
map_value levels end at info n following rest f first second = rw (first, second) refl

tag_value : (levels end at info n : ℕ) (following rest : List ℕ) (f : CborFault) → argument_at end info (following ++ rest) ≡ Ok (n, rest) → item_at levels end rest ≡ Err f
    → value_at (Some (item_at levels end)) end at major_type.Tag info (following ++ rest) ≡ Err f
unfolding value_at
tag_value levels end at info n following rest f first second = rw (first, second) refl

open_array_value : (levels end at : ℕ) (rest : List ℕ) (f : CborFault) → open_items_at (item_at levels end) (length rest) end rest ≡ Err f → indefinite_at (Some (item_at levels end)) end at major_type.Array rest ≡ Err f
unfolding indefinite_at
open_array_value levels end at rest f e = rw e refl

open_map_value : (levels end at : ℕ) (rest : List ℕ) (f : CborFault) → open_pairs_at (item_at levels end) (length rest) end [] rest ≡ Err f → indefinite_at (Some (item_at levels end)) end at major_type.Map rest ≡ Err f
unfolding indefinite_at
open_map_value levels end at rest f e = rw e refl

place_behind : (at end : ℕ) (bytes opening content more : List ℕ) → at + length bytes ≡ end → bytes ≡ opening ++ (content ++ more) → at + length opening + length content + length more ≡ end
place_behind at end bytes opening content more h is = let l = ap length is in let m = length-append opening (content ++ more) in let n = length-append content more in omega arith

short_behind : (bytes opening content more : List ℕ) → ShortBytes bytes → bytes ≡ opening ++ (content ++ more) → ShortBytes content × ShortBytes more
short_behind bytes opening content more held is =
    let behind = short_rest bytes opening (content ++ more) held is in
    (short_front (content ++ more) content more behind refl, short_rest (content ++ more) content more behind refl)

module _ (levels end : ℕ) (refuse : Refuse (BreaksWithin levels) (item_at levels end) end) where
  array_refused : (at : ℕ) (bytes : List ℕ) (f : CborFault) (ts : Rattle.cbor_profile.specs.Tree.Trees) (opening content more : List ℕ) → bytes ≡ opening ++ (content ++ more)
      → SpellsItems (SpellsWithin levels) content ts → item_at levels end more ≡ Err f → GoesOn 4 (Rattle.cbor_profile.specs.Tree.count ts) opening more → item_at (suc levels) end bytes ≡ Err f
  unfolding start_with
  array_refused at bytes f ts opening content more is items e goes = elim goes [
    | GoesOn.definite n lt head ↦
        let second = items_refused (SpellsWithin levels) (BreaksWithin levels) (item_at levels end) end (within_starts levels end) (within_again levels end) refuse (nothing_short levels end) ts n content more f lt items e in
        ap (item_at (suc levels) end) is ∙ head_begins (suc levels) end n major_type.Array opening (content ++ more) head tt
        ∙ array_value levels end _ head.info n head.following (content ++ more) f (argument_again end head.info n head.following (content ++ more) head.argument) second
    | GoesOn.indefinite opens no_end ↦
        let second = open_items_refused (SpellsWithin levels) (BreaksWithin levels) (item_at levels end) end (within_starts levels end) (within_again levels end) refuse (nothing_short levels end) ts (length (content ++ more)) content more f (omega arith) no_end items e in
        ap (item_at (suc levels) end) (is ∙ ap (λ (l : List ℕ). l ++ (content ++ more)) opens) ∙ open_begins (suc levels) end (begin 4) major_type.Array (content ++ more) refl
        ∙ open_array_value levels end _ (content ++ more) f second
  ]

  map_refused : (at : ℕ) (bytes : List ℕ) (f : CborFault) (read : List (Tree × Tree)) (opening content more : List ℕ) → ShortBytes bytes → at + length bytes ≡ end → bytes ≡ opening ++ (content ++ more)
      → SpellsPairs (SpellsWithin levels) content read → AreDistinct read → BreaksPair (SpellsWithin levels) (BreaksWithin levels) read (at + length opening + length content) more f → GoesOn 5 (length read) opening more
      → item_at (suc levels) end bytes ≡ Err f
  unfolding start_with
  map_refused at bytes f read opening content more held h is pairs apart b goes =
      let held2 = short_behind bytes opening content more held is in
      let sounds = read_sounds levels (SpellsWithin levels) (BreaksWithin levels) (within_starts levels end) (within_sound levels) read content held2.0 pairs in
      let runs = distinct_runs read sounds apart in
      let e = pair_refused (SpellsWithin levels) (BreaksWithin levels) (item_at levels end) end (within_starts levels end) (within_again levels end) refuse (nothing_short levels end) levels (within_sound levels) read runs.0
      (at + length opening + length content) more f held2.1 (place_behind at end bytes opening content more h is) runs.1 runs.2 b in
      elim goes [
        | GoesOn.definite n lt head ↦
            let second = pairs_refused (SpellsWithin levels) (BreaksWithin levels) (item_at levels end) end (within_starts levels end) (within_again levels end) refuse (nothing_short levels end) read [] runs.0 n content more f lt pairs runs.1 e in
            ap (item_at (suc levels) end) is ∙ head_begins (suc levels) end n major_type.Map opening (content ++ more) head tt
            ∙ map_value levels end _ head.info n head.following (content ++ more) f (argument_again end head.info n head.following (content ++ more) head.argument) second
        | GoesOn.indefinite opens no_end ↦
            let second = open_pairs_refused (SpellsWithin levels) (BreaksWithin levels) (item_at levels end) end (within_starts levels end) (within_again levels end) refuse (nothing_short levels end) read [] runs.0 (length (content ++ more)) content more f
            (omega arith) no_end pairs runs.1 e in
            ap (item_at (suc levels) end) (is ∙ ap (λ (l : List ℕ). l ++ (content ++ more)) opens) ∙ open_begins (suc levels) end (begin 5) major_type.Map (content ++ more) refl
            ∙ open_map_value levels end _ (content ++ more) f second
      ]

  nest_argument : (at major : ℕ) (bytes : List ℕ) (f : CborFault) → 4 ≤ major → major ≤ 6 → at + length bytes ≡ end → IsCut major bytes → f ≡ Short (at + length bytes) → item_at (suc levels) end bytes ≡ Err f
  nest_argument at major bytes f least most h cut is = elim (cases_eq major 4) [
    | inl four ↦ cut_refused (suc levels) end at major_type.Array bytes f tt h (subst (λ (m : ℕ). IsCut m bytes) four cut) is (array_cut levels end)
    | inr other ↦ elim (cases_eq major 5) [
      | inl five ↦ cut_refused (suc levels) end at major_type.Map bytes f tt h (subst (λ (m : ℕ). IsCut m bytes) five cut) is (map_cut levels end)
      | inr last ↦
          let six : major ≡ 6 = omega arith in
          cut_refused (suc levels) end at major_type.Tag bytes f tt h (subst (λ (m : ℕ). IsCut m bytes) six cut) is (tag_cut levels end)
    ]
  ]

  nest_refused : (at : ℕ) (bytes : List ℕ) (f : CborFault) → ShortBytes bytes → at + length bytes ≡ end → BreaksNest (SpellsWithin levels) (BreaksWithin levels) at bytes f → item_at (suc levels) end bytes ≡ Err f
  nest_refused at bytes f held h b = elim b [
    | BreaksNest.argument major least most cut is ↦ nest_argument at major bytes f least most h cut is
    | BreaksNest.item ts opening content more goes is items later ↦
        let held2 = short_behind bytes opening content more held is in
        let e = refuse (at + length opening + length content) more f held2.1 (place_behind at end bytes opening content more h is) later in
        array_refused at bytes f ts opening content more is items e goes
    | BreaksNest.pair read opening content more goes is pairs apart later ↦ map_refused at bytes f read opening content more held h is pairs apart later goes
    | BreaksNest.tagged n head more counted is later ↦
        let e = refuse (at + length head) more f (short_rest bytes head more held is) (end_after at end bytes head more h is) later in
        ap (item_at (suc levels) end) is ∙ head_begins (suc levels) end n major_type.Tag head more counted tt
        ∙ tag_value levels end _ counted.info n counted.following more f (argument_again end counted.info n counted.following more counted.argument) e
  ]

either_deep : (end at : ℕ) (bytes : List ℕ) (f : CborFault) → at + length bytes ≡ end → BreaksPlain at bytes f ⊎ IsDeep at bytes f → item_at zero end bytes ≡ Err f
either_deep end at bytes f h (inl plain) = plain_refused zero end at bytes f h plain
either_deep end at bytes f h (inr deep) =
    ap (item_at zero end) deep.is ∙ deep_refused end at deep.first deep.more (let l = ap length deep.is in omega arith) deep.nesting ∙ ap tree_fault (sym deep.fault_is)

either_nest : (levels end at : ℕ) (bytes : List ℕ) (f : CborFault) → Refuse (BreaksWithin levels) (item_at levels end) end → ShortBytes bytes → at + length bytes ≡ end
    → BreaksPlain at bytes f ⊎ BreaksNest (SpellsWithin levels) (BreaksWithin levels) at bytes f → item_at (suc levels) end bytes ≡ Err f
either_nest levels end at bytes f refuse held h (inl plain) = plain_refused (suc levels) end at bytes f h plain
either_nest levels end at bytes f refuse held h (inr nest) = nest_refused levels end refuse at bytes f held h nest

pub within_refused : (levels end : ℕ) → Refuse (BreaksWithin levels) (item_at levels end) end
unfolding BreaksWithin
within_refused zero end at bytes f held h b = either_deep end at bytes f h b
within_refused (suc levels) end at bytes f held h b = either_nest levels end at bytes f (within_refused levels end) held h b
