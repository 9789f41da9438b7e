-- What breaks is not read, and the fault is that.
use Rattle.std.proofs.Common.{◌≡◌, ℕ, zero, suc, ◌+◌, ◌*◌, ◌-◌, ◌/◌, ◌%◌, ◌<◌, ◌≤◌, true, false, List, [], ◌∷◌, ◌++◌, length, Ok, Err, refl, sym, ap, ◌∙◌, subst, inl, inr, arith, append_assoc}
use Rattle.std.specs.Prelude.{nat_lt, ◌==◌, ◌⊎◌, IsUtf8}
use Rattle.std.specs.Int.{byte_len}
use Rattle.std.specs.Str.{is_utf8}
use Rattle.std.proofs.lemmas.Bool.{lt-ltb, le-ltb, ne_eqb, eqb-true, cases_Bool, and_parts, ltb-true}
use Rattle.std.proofs.lemmas.List.{length-append, take_at, drop_at, nil_from_length}
use Rattle.std.proofs.lemmas.Str.{IsUtf8-from_is_utf8}
use Rattle.cbor_profile.specs.declared.fault.CborFault.{CborFault}
use Rattle.cbor_profile.specs.declared.fault.CborFault.TheVariants.{Short, Reserved, NotUtf8, Unsupported}
use Rattle.cbor_profile.specs.declared.major.Major.{Major}
use Rattle.cbor_profile.specs.declared.major.Major.TheVariants as major_type
use Rattle.cbor_profile.specs.declared.head.Start.{Start}
use Rattle.cbor_profile.specs.declared.head.Start.TheVariants as start
use Rattle.cbor_profile.specs.Parts.{number_of}
use Rattle.cbor_profile.specs.Tree.{Tree, Trees, no_items, item, count}
use Rattle.cbor_profile.specs.Spelling.{width, begin, break, IsArgument, IsHead, IsString, AreParts, SpellsItems, SpellsPairs, SpellsWithin}
use Rattle.cbor_profile.specs.Breaking.{IsReserved, IsUnsupported, BreaksString, BreaksPart, BreaksPair}
use Rattle.cbor_profile.specs.Keys.{has_key, put}
use Rattle.cbor_profile.specs.ItemReading.{Read, ◌>>=◌, argument_at, content_at, checked, string_at, is_part, parts_at, items_at, open_items_at, pair_at, pairs_at, open_pairs_at, start_of, start_with, major_of, begun_at, item_at}
use Rattle.cbor_profile.proofs.Results.{broken, err_is}
use Rattle.cbor_profile.proofs.Firsts.{item_begins, info_small, Starts, Starts-append}
use Rattle.cbor_profile.proofs.Beginnings.{Begins, begins}
use Rattle.cbor_profile.proofs.Again.{argument_again, head_parts, IsStringMajor, part_begins, string_again}
use Rattle.cbor_profile.proofs.Nested.{Reads, PartStarts}
use Rattle.cbor_profile.proofs.Ordered.{Runs, runs_in_order}
use Rattle.cbor_profile.proofs.Sound.{ShortBytes, short_front, short_rest, PartSound}
use Rattle.cbor_profile.proofs.Keys.{key_permutation, not_has, key_has_true}
use Rattle.cbor_profile.proofs.PartFaults.{NoEnd}
use Rattle.cbor_profile.proofs.Faults.{end_after}
use Rattle.std.specs.List.{AllByRecursion}
use Rattle.std.proofs.lemmas.List.Sorted.{IsPermutation-sym}
use Rattle.cbor_profile.proofs.Places.{KeySound}

pub short_end : (at end : ℕ) (bytes : List ℕ) (f : CborFault) → at + length bytes ≡ end → f ≡ Short (at + length bytes) → f ≡ Short end
short_end at end bytes f h is = is ∙ ap Short h

-- ---- first bytes

reserved_start : (a : Major) (info : ℕ) (s : Start) → 28 ≤ info → info ≤ 30 → Begins a info s → s ≡ start.Reserved
reserved_start a info s least most kind = elim kind [
  | Begins.value has lt is ↦ absurd (omega arith)
  | Begins.indefinite has last is ↦ absurd (omega arith)
  | Begins.simple same low high is ↦ absurd (omega arith)
  | Begins.unsupported same (inl low) is ↦ absurd (omega arith)
  | Begins.unsupported same (inr high) is ↦ absurd (omega (arith, high.1))
  | Begins.reserved low which is ↦ is
]

pub first_reserved : (first : ℕ) → IsReserved first → start_of first ≡ start.Reserved
unfolding start_with
first_reserved first is = elim is [
  | IsReserved.information least most ↦ reserved_start (major_of (first / 32)) (first % 32) (start_of first) least most (begins (major_of (first / 32)) (first % 32) (omega arith))
  | IsReserved.unsigned e ↦ rw e refl
  | IsReserved.negative e ↦ rw e refl
  | IsReserved.tag e ↦ rw e refl
  | IsReserved.ending e ↦ rw e refl
]

unsupported_start : (info : ℕ) (s : Start) → (info < 20) ⊎ ((22 < info) × (info < 28)) → Begins major_type.Simple info s → s ≡ start.Unsupported
unsupported_start info s which kind = elim kind [
  | Begins.value has lt is ↦ absurd has
  | Begins.indefinite has last is ↦ absurd has
  | Begins.simple same low high is ↦ absurd (apart info low high which)
  | Begins.unsupported same other is ↦ is
  | Begins.reserved low other is ↦ absurd (beyond info low which)
]
  where
    apart : (info : ℕ) → 20 ≤ info → info ≤ 22 → (info < 20) ⊎ ((22 < info) × (info < 28)) → ⊥
    apart info low high (inl l) = omega arith
    apart info low high (inr h) = omega (arith, h.0)

    beyond : (info : ℕ) → 28 ≤ info → (info < 20) ⊎ ((22 < info) × (info < 28)) → ⊥
    beyond info low (inl l) = omega arith
    beyond info low (inr h) = omega (arith, h.1)

simple_first : (first : ℕ) → first / 32 ≡ 7 → (first % 32 < 20) ⊎ ((22 < first % 32) × (first % 32 < 28)) → start_of first ≡ start.Unsupported
simple_first first major which =
    let is : start_of first ≡ start_with major_type.Simple (first % 32) = ap (λ (q : ℕ). start_with (major_of q) (first % 32)) major in
    is ∙ unsupported_start (first % 32) (start_with major_type.Simple (first % 32)) which (begins major_type.Simple (first % 32) (omega arith))

pub first_unsupported : (first : ℕ) → IsUnsupported first → start_of first ≡ start.Unsupported
first_unsupported first is = elim is [
  | IsUnsupported.simple least most ↦ simple_first first (omega arith) (inl (omega arith))
  | IsUnsupported.undefined e ↦ simple_first first (omega arith) (inr (omega arith, omega arith))
  | IsUnsupported.wide least most ↦ simple_first first (omega arith) (inr (omega arith, omega arith))
]

pub reserved_refused : (levels end at first : ℕ) (more : List ℕ) → at + suc (length more) ≡ end → start_of first ≡ start.Reserved → item_at levels end (first ∷ more) ≡ Err (Reserved at)
unfolding begun_at
reserved_refused levels end at first more h is = item_begins levels end first more start.Reserved is ∙ ap (λ (p : ℕ). broken {A = Tree × List ℕ} (Reserved p)) (omega arith)

pub unsupported_refused : (levels end at first : ℕ) (more : List ℕ) → at + suc (length more) ≡ end → start_of first ≡ start.Unsupported → item_at levels end (first ∷ more) ≡ Err (Unsupported at)
unfolding begun_at
unsupported_refused levels end at first more h is = item_begins levels end first more start.Unsupported is ∙ ap (λ (p : ℕ). broken {A = Tree × List ℕ} (Unsupported p)) (omega arith)

-- ---- heads and strings

pub argument_refused : (end info : ℕ) (more : List ℕ) → 24 ≤ info → length more < byte_len (width info) → argument_at end info more ≡ Err (Short end)
unfolding argument_at
argument_refused end info more least short = let e = le-ltb info 24 least in let g = lt-ltb (length more) (byte_len (width info)) short in rw (e, g) refl

content_refused : (end n : ℕ) (more : List ℕ) → length more < n → content_at end n more ≡ Err (Short end)
content_refused end n more short = let g = lt-ltb (length more) n short in rw g refl

content_read : (end n : ℕ) (string rest : List ℕ) → length string ≡ n → content_at end n (string ++ rest) ≡ Ok (string, rest)
content_read end n string rest len =
    let long = le-ltb (length (string ++ rest)) n (omega (arith, length-append string rest)) in
    rw (long, take_at string rest n len, drop_at string rest n len) refl

bad_utf8 : (string : List ℕ) → (IsUtf8 string → ⊥) → (is_utf8 string ≡ true) ⊎ (is_utf8 string ≡ false) → is_utf8 string ≡ false
bad_utf8 string bad (inl good) = absurd (bad (IsUtf8-from_is_utf8 string good))
bad_utf8 string bad (inr is) = is

pub checked_refused : (a : Major) (at : ℕ) (string rest : List ℕ) → number_of a ≡ 3 → (IsUtf8 string → ⊥) → checked a at (string, rest) ≡ Err (NotUtf8 at)
checked_refused major_type.Text at string rest is bad = let e = bad_utf8 string bad (cases_Bool (is_utf8 string)) in rw e refl
checked_refused major_type.Unsigned at string rest is bad = absurd (omega arith)
checked_refused major_type.Negative at string rest is bad = absurd (omega arith)
checked_refused major_type.Bytes at string rest is bad = absurd (omega arith)
checked_refused major_type.Array at string rest is bad = absurd (omega arith)
checked_refused major_type.Map at string rest is bad = absurd (omega arith)
checked_refused major_type.Tag at string rest is bad = absurd (omega arith)
checked_refused major_type.Simple at string rest is bad = absurd (omega arith)

-- what breaks in a string of definite length, behind its initial byte
pub record StringRefused (a : Major) (end at : ℕ) (bytes : List ℕ) (f : CborFault) : Type 0 where
  pub info : ℕ
  pub more : List ℕ
  pub is : bytes ≡ (32 * number_of a + info) ∷ more
  pub small : info < 28
  pub refused : string_at end at a info more ≡ Err f

pub string_refused : (a : Major) (end at : ℕ) (bytes : List ℕ) (f : CborFault) → at + length bytes ≡ end → BreaksString (number_of a) at bytes f → StringRefused a end at bytes f
unfolding string_at
string_refused a end at bytes f h b = elim b [
  | BreaksString.argument cut is ↦
      let e = argument_refused end cut.info cut.more cut.least cut.short in
      let fault = short_end at end bytes f h is in
      record { info = cut.info; more = cut.more; is = cut.is; small = cut.most; refused = rw e (ap (λ (g : CborFault). broken {A = List ℕ × List ℕ} g) (sym fault)) }
  | BreaksString.content n head more counted is short e ↦
      let first = argument_again end counted.info n counted.following more counted.argument in
      let second = content_refused end n more short in
      let fault = short_end at end bytes f h e in
      record {
        info = counted.info;
        more = counted.following ++ more;
        is = is ∙ head_parts (number_of a) n head more counted;
        small = info_small counted.info n counted.following counted.argument;
        refused = rw (first, second) (ap (λ (g : CborFault). broken {A = List ℕ × List ℕ} g) (sym fault));
      }
  | BreaksString.utf8 head string more counted is three bad e ↦
      let first = argument_again end counted.info (length string) counted.following (string ++ more) counted.argument in
      let second = content_read end (length string) string more refl in
      let third = checked_refused a at string more three bad in
      record {
        info = counted.info;
        more = counted.following ++ (string ++ more);
        is = is ∙ head_parts (number_of a) (length string) head (string ++ more) counted;
        small = info_small counted.info (length string) counted.following counted.argument;
        refused = rw (first, second, third) (ap (λ (g : CborFault). broken {A = List ℕ × List ℕ} g) (sym e));
      }
]

other_part : (a : Major) (first : ℕ) → ((info : ℕ) → info < 28 → first ≡ 32 * number_of a + info → ⊥) → (is_part a first ≡ true) ⊎ (is_part a first ≡ false) → is_part a first ≡ false
other_part a first other (inl is) =
    let both = and_parts (first / 32 == number_of a) (nat_lt (first % 32) 28) is in
    let q = eqb-true _ _ both.0 in
    absurd (other (first % 32) (ltb-true _ _ both.1) (omega arith))
other_part a first other (inr is) = is

part_now : (fuel end at : ℕ) (a : Major) (bytes : List ℕ) (f : CborFault) → IsStringMajor a → at + length bytes ≡ end → BreaksPart (number_of a) at bytes f → parts_at (suc fuel) end a bytes ≡ Err f
unfolding parts_at
part_now fuel end at a bytes f kind h b = elim b [
  | BreaksPart.short empty is ↦ let e : end ≡ at = sym h ∙ ap (λ (l : List ℕ). at + length l) empty ∙ omega arith in rw (empty, e) (ap (λ (g : CborFault). broken {A = List ℕ × List ℕ} g) (sym is))
  | BreaksPart.other first more is last other e ↦
      let place : end - suc (length more) ≡ at = let l = ap length is in omega arith in
      let goes = ne_eqb first break last in
      let part = other_part a first other (cases_Bool (is_part a first)) in
      rw (is, goes, part, place) (ap (λ (g : CborFault). broken {A = List ℕ × List ℕ} g) (sym e))
  | BreaksPart.part string ↦
      let s = string_refused a end at bytes f h string in
      let begun = part_begins a s.info kind s.small in
      let place : end - suc (length s.more) ≡ at = let l = ap length s.is in omega arith in
      let refused = s.refused in
      rw (s.is, begun.0, begun.1, begun.2, place, refused) refl
]

string_not_empty : (major at : ℕ) (bytes : List ℕ) (f : CborFault) → bytes ≡ [] → BreaksString major at bytes f → ⊥
string_not_empty major at bytes f empty b = elim b [
  | BreaksString.argument cut is ↦ let a = ap length empty in let l = ap length cut.is in omega arith
  | BreaksString.content n head more counted is short e ↦
      let a = ap length empty in let l = ap length is in let m = length-append head more in let k = ap length counted.is in omega arith
  | BreaksString.utf8 head string more counted is three bad e ↦
      let a = ap length empty in let l = ap length is in let m = length-append head (string ++ more) in let k = ap length counted.is in omega arith
]

part_nothing : (major at : ℕ) (bytes : List ℕ) (f : CborFault) → bytes ≡ [] → BreaksPart major at bytes f → f ≡ Short at
part_nothing major at bytes f empty b = elim b [
  | BreaksPart.short same is ↦ is
  | BreaksPart.other first more is last other e ↦ let a = ap length empty in let l = ap length is in absurd (omega arith)
  | BreaksPart.part string ↦ absurd (string_not_empty major at bytes f empty string)
]

part_soon : (fuel end at : ℕ) (a : Major) (bytes : List ℕ) (f : CborFault) → IsStringMajor a → at + length bytes ≡ end → length bytes ≤ fuel → BreaksPart (number_of a) at bytes f → parts_at fuel end a bytes ≡ Err f
unfolding parts_at
part_soon zero end at a bytes f kind h enough b =
    let empty = nil_from_length bytes (omega arith) in
    let e : end ≡ at = omega arith in
    ap (λ (p : ℕ). broken {A = List ℕ × List ℕ} (Short p)) e ∙ ap (λ (g : CborFault). broken {A = List ℕ × List ℕ} g) (sym (part_nothing (number_of a) at bytes f empty b))
part_soon (suc fuel) end at a bytes f kind h enough b = part_now fuel end at a bytes f kind h b

part_later : (fuel end : ℕ) (a : Major) (info : ℕ) (following string more : List ℕ) (f : CborFault) → IsStringMajor a → IsArgument info (length string) following → Rattle.cbor_profile.specs.Spelling.Fits (number_of a) string
    → parts_at fuel end a more ≡ Err f → parts_at (suc fuel) end a ((32 * number_of a + info) ∷ (following ++ (string ++ more))) ≡ Err f
unfolding parts_at
part_later fuel end a info following string more f kind argument fits next =
    let begun = part_begins a info kind (info_small info (length string) following argument) in
    let first = string_again end (end - suc (length (following ++ (string ++ more)))) a info following string more argument fits in
    rw (begun.0, begun.1, begun.2, first, next) refl

pub parts_refused : (parts : List (List ℕ)) (fuel end at : ℕ) (a : Major) (string content more : List ℕ) (f : CborFault) → IsStringMajor a → AreParts (number_of a) parts string content → at + length (content ++ more) ≡ end
    → length (content ++ more) ≤ fuel → BreaksPart (number_of a) (at + length content) more f → parts_at fuel end a (content ++ more) ≡ Err f
parts_refused [] fuel end at a string content more f kind h e enough b =
    let empty = h.1 in
    let place : at + length content ≡ at = ap (λ (l : List ℕ). at + length l) empty ∙ omega arith in
    let here : at + length more ≡ end = sym (ap (λ (l : List ℕ). at + length (l ++ more)) empty) ∙ e in
    let few : length more ≤ fuel = let l = ap (λ (l : List ℕ). length (l ++ more)) empty in omega arith in
    ap (λ (l : List ℕ). parts_at fuel end a (l ++ more)) empty ∙ part_soon fuel end at a more f kind here few (subst (λ (p : ℕ). BreaksPart (number_of a) p more f) place b)
parts_refused (part ∷ parts) zero end at a string content more f kind h e enough b =
    let one = h.5 in
    let l = ap length h.4 in
    let m = length-append h.0 h.1 in
    let k = ap length one.is in
    let n = length-append one.head part in
    let j = ap length (one.counted).is in
    let i = length-append content more in
    absurd (omega arith)
parts_refused (part ∷ parts) (suc fuel) end at a string content more f kind h e enough b =
    let front = h.0 in
    let rest = h.1 in
    let one = h.5 in
    let head = one.counted in
    let regrouped : content ++ more ≡ (32 * number_of a + head.info) ∷ (head.following ++ (part ++ (rest ++ more))) =
    ap (λ (l : List ℕ). l ++ more) h.4 ∙ append_assoc front rest more ∙ ap (λ (l : List ℕ). l ++ (rest ++ more)) one.is ∙ append_assoc one.head part (rest ++ more)
    ∙ head_parts (number_of a) (length part) one.head (part ++ (rest ++ more)) head in
    let joined : content ++ more ≡ front ++ (rest ++ more) = ap (λ (l : List ℕ). l ++ more) h.4 ∙ append_assoc front rest more in
    let l = ap length joined in
    let m = length-append front (rest ++ more) in
    let k = ap length h.4 in
    let n = length-append front rest in
    let some = ap length one.is in
    let some2 = length-append one.head part in
    let some3 = ap length head.is in
    let place : at + length content ≡ at + length front + length rest = omega arith in
    let next = parts_refused parts fuel end (at + length front) a h.2 rest more f kind h.6 (omega arith) (omega arith) (subst (λ (p : ℕ). BreaksPart (number_of a) p more f) place b) in
    ap (parts_at (suc fuel) end a) regrouped ∙ part_later fuel end a head.info head.following part (rest ++ more) f kind head.argument one.fits next

-- ---- items and pairs

abbrev pub Refuse : (ℕ → List ℕ → CborFault → Type 0) → (List ℕ → Read Tree) → ℕ → Type 0
Refuse Break read end = (at : ℕ) (bytes : List ℕ) (f : CborFault) → ShortBytes bytes → at + length bytes ≡ end → Break at bytes f → read bytes ≡ Err f

module _ (Part : List ℕ → Tree → Type 0) (Break : ℕ → List ℕ → CborFault → Type 0) (read : List ℕ → Read Tree) (end : ℕ) (starts : PartStarts Part) (again : Reads Part read) (refuse : Refuse Break read end)
    (nothing : read [] ≡ Err (Short end)) where
  pub items_refused : (ts : Trees) (n : ℕ) (content more : List ℕ) (f : CborFault) → count ts < n → SpellsItems Part content ts → read more ≡ Err f → items_at read n (content ++ more) ≡ Err f
  unfolding items_at
  items_refused no_items zero content more f lt h e = absurd (omega arith)
  items_refused no_items (suc n) content more f lt h e = rw (h, e) refl
  items_refused (item t ts) zero content more f lt h e = absurd (omega arith)
  items_refused (item t ts) (suc n) content more f lt h e =
      let front = h.0 in
      let rest = h.1 in
      let regrouped : content ++ more ≡ front ++ (rest ++ more) = ap (λ (l : List ℕ). l ++ more) h.2 ∙ append_assoc front rest more in
      let first = again front t (rest ++ more) h.3 in
      let next = items_refused ts n rest more f (omega arith) h.4 e in
      rw (regrouped, first, next) refl

  open_nothing : (fuel : ℕ) → open_items_at read fuel end [] ≡ Err (Short end)
  unfolding open_items_at
  open_nothing zero = refl
  open_nothing (suc fuel) = refl

  open_goes : (fuel : ℕ) (bytes : List ℕ) → Starts bytes → open_items_at read (suc fuel) end bytes ≡ (read bytes >>= λ item. open_items_at read fuel end item.1 >>= λ others. Ok (item.0 ∷ others.0, others.1))
  unfolding open_items_at
  open_goes fuel bytes s = rw (s.is, s.goes_on) refl

  abbrev no_end_starts : (first : ℕ) (bytes : List ℕ) → NoEnd (first ∷ bytes) → Starts (first ∷ bytes)
  no_end_starts first bytes goes = record { first = first; more = bytes; is = refl; goes_on = ne_eqb first break (λ e. goes bytes (ap (λ (b : ℕ). b ∷ bytes) e)) }

  open_now : (fuel : ℕ) (more : List ℕ) (f : CborFault) → length more ≤ fuel → NoEnd more → read more ≡ Err f → open_items_at read fuel end more ≡ Err f
  open_now fuel [] f enough goes e = open_nothing fuel ∙ ap (λ (g : CborFault). broken {A = List Tree × List ℕ} g) (err_is {A = Tree × List ℕ} (Short end) f (sym nothing ∙ e))
  open_now zero (first ∷ more) f enough goes e = absurd (omega arith)
  open_now (suc fuel) (first ∷ more) f enough goes e = open_goes fuel (first ∷ more) (no_end_starts first more goes) ∙ rw e refl

  pub open_items_refused : (ts : Trees) (fuel : ℕ) (content more : List ℕ) (f : CborFault) → length (content ++ more) ≤ fuel → NoEnd more → SpellsItems Part content ts → read more ≡ Err f
      → open_items_at read fuel end (content ++ more) ≡ Err f
  open_items_refused no_items fuel content more f enough goes h e =
      let few : length more ≤ fuel = let l = ap (λ (l : List ℕ). length (l ++ more)) h in omega arith in
      ap (λ (l : List ℕ). open_items_at read fuel end (l ++ more)) h ∙ open_now fuel more f few goes e
  open_items_refused (item t ts) fuel content more f enough goes h e =
      let front = h.0 in
      let rest = h.1 in
      let s = starts front t h.3 in
      let regrouped : content ++ more ≡ front ++ (rest ++ more) = ap (λ (l : List ℕ). l ++ more) h.2 ∙ append_assoc front rest more in
      let long = ap length regrouped in
      let sum = length-append front (rest ++ more) in
      let some = ap length s.is in
      let first = again front t (rest ++ more) h.3 in
      let some_fuel : fuel ≡ suc (fuel - 1) = omega arith in
      let next = open_items_refused ts (fuel - 1) rest more f (omega arith) goes h.4 e in
      ap (λ (n : ℕ). open_items_at read n end (content ++ more)) some_fuel ∙ ap (open_items_at read (suc (fuel - 1)) end) regrouped
      ∙ open_goes (fuel - 1) (front ++ (rest ++ more)) (Starts-append front (rest ++ more) s) ∙ rw (first, next) refl

  pair_then : (acc : List (Tree × Tree)) (k v : Tree) (key value rest : List ℕ) → Part key k → Part value v → has_key k acc ≡ false → pair_at read end acc (key ++ (value ++ rest)) ≡ Ok (put k v acc, rest)
  unfolding pair_at
  pair_then acc k v key value rest f g fresh =
      let first = again key k (value ++ rest) f in
      let second = again value v rest g in
      rw (first, fresh, second) refl

  pub pairs_refused : (ps acc final : List (Tree × Tree)) (n : ℕ) (content more : List ℕ) (f : CborFault) → length ps < n → SpellsPairs Part content ps → Runs acc ps final → pair_at read end final more ≡ Err f
      → pairs_at read end n acc (content ++ more) ≡ Err f
  unfolding pairs_at
  pairs_refused [] acc final zero content more f lt h runs e = absurd (omega arith)
  pairs_refused [] acc final (suc n) content more f lt h runs e = rw (h, runs, e) refl
  pairs_refused (p ∷ ps) acc final zero content more f lt h runs e = absurd (omega arith)
  pairs_refused (p ∷ ps) acc final (suc n) content more f lt h runs e =
      let key = h.0 in
      let value = h.1 in
      let rest = h.2 in
      let regrouped : content ++ more ≡ key ++ (value ++ (rest ++ more)) = ap (λ (l : List ℕ). l ++ more) h.3 ∙ append_assoc key (value ++ rest) more ∙ ap (λ (l : List ℕ). key ++ l) (append_assoc value rest more) in
      let first = pair_then acc p.0 p.1 key value (rest ++ more) h.4 h.5 runs.0 in
      let next = pairs_refused ps (put p.0 p.1 acc) final n rest more f (omega arith) h.6 runs.1 e in
      rw (regrouped, first) next

  open_pairs_nothing : (fuel : ℕ) (acc : List (Tree × Tree)) → open_pairs_at read fuel end acc [] ≡ Err (Short end)
  unfolding open_pairs_at
  open_pairs_nothing zero acc = refl
  open_pairs_nothing (suc fuel) acc = refl

  pair_nothing : (acc : List (Tree × Tree)) → pair_at read end acc [] ≡ Err (Short end)
  unfolding pair_at
  pair_nothing acc = rw nothing refl

  open_pair_goes : (fuel : ℕ) (acc : List (Tree × Tree)) (bytes : List ℕ) → Starts bytes → open_pairs_at read (suc fuel) end acc bytes ≡ (pair_at read end acc bytes >>= λ more. open_pairs_at read fuel end more.0 more.1)
  unfolding open_pairs_at
  open_pair_goes fuel acc bytes s = rw (s.is, s.goes_on) refl

  open_pair_now : (fuel : ℕ) (acc : List (Tree × Tree)) (more : List ℕ) (f : CborFault) → length more ≤ fuel → NoEnd more → pair_at read end acc more ≡ Err f → open_pairs_at read fuel end acc more ≡ Err f
  open_pair_now fuel acc [] f enough goes e = open_pairs_nothing fuel acc ∙ sym (pair_nothing acc) ∙ e
  open_pair_now zero acc (first ∷ more) f enough goes e = absurd (omega arith)
  open_pair_now (suc fuel) acc (first ∷ more) f enough goes e = open_pair_goes fuel acc (first ∷ more) (no_end_starts first more goes) ∙ rw e refl

  pub open_pairs_refused : (ps acc final : List (Tree × Tree)) (fuel : ℕ) (content more : List ℕ) (f : CborFault) → length (content ++ more) ≤ fuel → NoEnd more → SpellsPairs Part content ps → Runs acc ps final
      → pair_at read end final more ≡ Err f → open_pairs_at read fuel end acc (content ++ more) ≡ Err f
  open_pairs_refused [] acc final fuel content more f enough goes h runs e =
      let few : length more ≤ fuel = let l = ap (λ (l : List ℕ). length (l ++ more)) h in omega arith in
      ap (λ (l : List ℕ). open_pairs_at read fuel end acc (l ++ more)) h ∙ open_pair_now fuel acc more f few goes (ap (λ (l : List (Tree × Tree)). pair_at read end l more) runs ∙ e)
  open_pairs_refused (p ∷ ps) acc final fuel content more f enough goes h runs e =
      let key = h.0 in
      let value = h.1 in
      let rest = h.2 in
      let s = starts key p.0 h.4 in
      let regrouped : content ++ more ≡ key ++ (value ++ (rest ++ more)) = ap (λ (l : List ℕ). l ++ more) h.3 ∙ append_assoc key (value ++ rest) more ∙ ap (λ (l : List ℕ). key ++ l) (append_assoc value rest more) in
      let long = ap length regrouped in
      let sum = length-append key (value ++ (rest ++ more)) in
      let sum2 = length-append value (rest ++ more) in
      let some = ap length s.is in
      let first = pair_then acc p.0 p.1 key value (rest ++ more) h.4 h.5 runs.0 in
      let some_fuel : fuel ≡ suc (fuel - 1) = omega arith in
      let next = open_pairs_refused ps (put p.0 p.1 acc) final (fuel - 1) rest more f (omega arith) goes h.6 runs.1 e in
      ap (λ (n : ℕ). open_pairs_at read n end acc (content ++ more)) some_fuel ∙ ap (open_pairs_at read (suc (fuel - 1)) end acc) regrouped
      ∙ open_pair_goes (fuel - 1) acc (key ++ (value ++ (rest ++ more))) (Starts-append key (value ++ (rest ++ more)) s)
      ∙ ap (λ (r : Read (List (Tree × Tree))). r >>= λ more. open_pairs_at read (fuel - 1) end more.0 more.1) first ∙ next

  -- the next pair, behind pairs that were put in order
  pub pair_refused : (levels : ℕ) → PartSound levels Part → (ps final : List (Tree × Tree)) (at : ℕ) (bytes : List ℕ) (f : CborFault) → ShortBytes bytes → at + length bytes ≡ end → Runs [] ps final → AllByRecursion KeySound final → BreaksPair Part Break ps at bytes f
      → pair_at read end final bytes ≡ Err f
  unfolding pair_at
  pair_refused levels sound ps final at bytes f held h runs sounds b =
      let same = (runs_in_order ps [] final tt runs).1 in
      elim b [
        | BreaksPair.key now ↦ let e = refuse at bytes f held h now in rw e refl
        | BreaksPair.duplicate k front more is part has e ↦
            let first = ap read is ∙ again front k more part in
            let found = key_has_true final k (key_permutation ps final k same has) in
            let place : end - length bytes ≡ at = omega arith in
            rw (first, found, place) (ap (λ (g : CborFault). broken {A = List (Tree × Tree) × List ℕ} g) (sym e))
        | BreaksPair.value k front more is part none later ↦
            let first = ap read is ∙ again front k more part in
            let one = sound front k (short_front bytes front more held is) part in
            let fresh = not_has final k sounds one.0 (λ key. none (key_permutation final ps k (IsPermutation-sym _ _ same) key)) in
            let second = refuse (at + length front) more f (short_rest bytes front more held is) (end_after at end bytes front more h is) later in
            rw (first, fresh, second) refl
      ]
