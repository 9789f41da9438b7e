-- New numbers of the slots: what a compaction leaves stands in the first slots.
use Rattle.std.proofs.Common.{◌≡◌, ℕ, ◌+◌, ◌<◌, ◌≤◌, zero, suc, Bool, true, false, cond, List, [], ◌∷◌, ◌++◌, length, map, Some, refl, sym, ap, subst, ◌∙◌, le_refl, le_trans, append_assoc, arith}
use Rattle.std.specs.Prelude.{option_to_list, slice_get, ◌==◌}
use Rattle.std.proofs.lemmas.Bool.{le-ltb, ne_eqb}
use Rattle.std.proofs.lemmas.Option.{slice_get_within, get_or_from_slice_get}
use Rattle.dots_history.specs.declared.entry.Entry.{Entry}
use Rattle.dots_history.specs.Histories.{Mitigation}
use Rattle.dots_history.specs.Keeping.{names, pass, kept, kept_places}
use Rattle.dots_history.specs.Slots.{Rises, placed, number_in}
use Rattle.dots_history.specs.KeptPlaces.{at_places, union}
use Rattle.dots_history.proofs.Keeping.{Keeper}
use Rattle.dots_history.proofs.Rising.{number_there}
use Rattle.dots_history.specs.Filed.{Filed, entry_of, slot_of, refiled}
use Rattle.dots_registry.specs.Kept.{filed_kept_by, filed_kept, named_slots, filed_from, filed}
use Rattle.dots_registry.proofs.Staying.{by_first, kept_entries}

-- ---- the slots of what is kept
at_middle : (before : List ℕ) (at slot : ℕ) (behind : List ℕ) → at ≡ length before → slice_get (before ++ slot ∷ behind) at ≡ Some slot
at_middle [] zero slot behind same = refl
at_middle [] (suc k) slot behind same = absurd (omega (arith, same))
at_middle (x ∷ before) zero slot behind same = absurd (omega (arith, same))
at_middle (x ∷ before) (suc k) slot behind same = at_middle before k slot behind (omega (arith, same))

length_more : (before : List ℕ) (slot : ℕ) → length (before ++ slot ∷ []) ≡ length before + 1
length_more [] slot = omega arith
length_more (x ∷ before) slot = let rest = length_more before slot in omega (arith, rest)

slots_kept : (keep : Keeper) (passed : List Mitigation) (before : List ℕ) (at : ℕ) (filed : List Filed) → at ≡ length before
    → at_places (before ++ map slot_of filed) (kept_places keep passed at (map entry_of filed)) ≡ map slot_of (filed_kept_by keep passed filed)
slots_kept keep passed before at [] same = refl
slots_kept keep passed before at (x ∷ later) same =
    let long = length_more before x.slot in
    let behind = map slot_of later in
    let places = kept_places keep (pass passed x.entry) (at + 1) (map entry_of later) in
    let go = slots_kept keep (pass passed x.entry) (before ++ x.slot ∷ []) (at + 1) later (omega (arith, same, long)) in
    by_test
    (keep passed x.entry (map entry_of later))
    (before ++ x.slot ∷ behind)
    places
    (filed_kept_by keep (pass passed x.entry) later)
    (at_middle before at x.slot behind same)
    (ap (λ whole. at_places whole places) (sym (append_assoc before (x.slot ∷ []) behind)) ∙ go)
  where
    by_test : (b : Bool) (whole places : List ℕ) (few : List Filed) → slice_get whole at ≡ Some x.slot → at_places whole places ≡ map slot_of few
        → at_places whole (cond b (at ∷ places) places) ≡ map slot_of (cond b (x ∷ few) few)
    by_test true whole places few found rest = ap (λ o. option_to_list o ++ at_places whole places) found ∙ ap (λ xs. x.slot ∷ xs) rest
    by_test false whole places few found rest = rest

pub named_are : (n t : ℕ) (filed : List Filed) → named_slots n t filed ≡ map slot_of (filed_kept n t filed)
named_are n t filed = slots_kept (names n t) [] [] 0 filed (omega arith)

-- ---- they rise
abbrev From : ℕ → List ℕ → Type 0
From low [] = Unit {0}
From low (x ∷ xs) = (low ≤ x) × From (x + 1) xs

from_less : (low high : ℕ) (xs : List ℕ) → low ≤ high → From high xs → From low xs
from_less low high [] less rises = record {}
from_less low high (x ∷ xs) less rises = (le_trans less rises.0, rises.1)

from_first : (x : ℕ) (xs : List ℕ) → Rises (x ∷ xs) → From x (x ∷ xs)
from_first x [] rises = (le_refl x, record {})
from_first x (y ∷ ys) rises = let more = rises.0 in (le_refl x, from_less (x + 1) y (y ∷ ys) (omega (arith, more)) (from_first y ys rises.1))

from_rising : (xs : List ℕ) → Rises xs → From 0 xs
from_rising [] rises = record {}
from_rising (x ∷ xs) rises = from_less 0 x (x ∷ xs) (omega arith) (from_first x xs rises)

from_rises : (low : ℕ) (xs : List ℕ) → From low xs → Rises xs
from_rises low [] from = record {}
from_rises low (x ∷ []) from = record {}
from_rises low (x ∷ y ∷ ys) from = let next = from.1.0 in (omega (arith, next), from_rises (x + 1) (y ∷ ys) from.1)

kept_from : (keep : Keeper) (passed : List Mitigation) (low : ℕ) (filed : List Filed) → From low (map slot_of filed) → From low (map slot_of (filed_kept_by keep passed filed))
kept_from keep passed low [] from = record {}
kept_from keep passed low (x ∷ later) from =
    let few = filed_kept_by keep (pass passed x.entry) later in
    let go = kept_from keep (pass passed x.entry) (x.slot + 1) later from.1 in
    let less = from.0 in
    by_first
    keep
    passed
    x
    later
    (λ xs. From low (map slot_of xs))
    (λ is. (from.0, go))
    (λ out. from_less low (x.slot + 1) (map slot_of few) (omega (arith, less)) go)

kept_rise : (n t : ℕ) (filed : List Filed) → Rises (map slot_of filed) → Rises (map slot_of (filed_kept n t filed))
kept_rise n t filed rises = from_rises 0 (map slot_of (filed_kept n t filed)) (kept_from (names n t) [] 0 filed (from_rising (map slot_of filed) rises))

pub named_rise : (n t : ℕ) (filed : List Filed) → Rises (map slot_of filed) → Rises (named_slots n t filed)
named_rise n t filed rises = subst Rises (sym (named_are n t filed)) (kept_rise n t filed rises)

-- ---- each gets its place
number_it : (keep : List ℕ) (place slot : ℕ) → Rises keep → slice_get keep place ≡ Some slot → number_in keep slot ≡ place
number_it keep place slot rises there =
    sym (number_there keep slot place rises (slice_get_within keep place slot there) (get_or_from_slice_get keep place slot 0 there))

numbers : (keep : List ℕ) (before : List ℕ) (place : ℕ) (few : List Filed) → Rises keep → keep ≡ before ++ map slot_of few → place ≡ length before
    → map (refiled keep) few ≡ filed_from place (map entry_of few)
numbers keep before place [] rises same at = refl
numbers keep before place (x ∷ later) rises same at =
    let long = length_more before x.slot in
    let there : slice_get keep place ≡ Some x.slot =
    ap (λ (xs : List ℕ). slice_get xs place) same ∙ at_middle before place x.slot (map slot_of later) at in
    ap (λ (slot : ℕ). record { entry = x.entry; slot = slot } ∷ map (refiled keep) later) (number_it keep place x.slot rises there)
    ∙ ap
    (λ rest. record { entry = x.entry; slot = place } ∷ rest)
    (numbers
    keep
    (before ++ x.slot ∷ [])
    (place + 1)
    later
    rises
    (same ∙ sym (append_assoc before (x.slot ∷ []) (map slot_of later)))
    (omega (arith, at, long)))

pub kept_are_first : (n t : ℕ) (all : List Filed) → Rises (map slot_of all) → map (refiled (named_slots n t all)) (filed_kept n t all) ≡ filed (kept n t (map entry_of all))
kept_are_first n t all rises =
    let few = filed_kept n t all in
    ap (λ keep. map (refiled keep) few) (named_are n t all)
    ∙ numbers (map slot_of few) [] 0 few (kept_rise n t all rises) refl (omega arith)
    ∙ ap (filed_from 0) (kept_entries (names n t) [] all)

-- ---- a list that rises is its union with nothing
placed_first : (x y : ℕ) (ys : List ℕ) → x < y → placed x (y ∷ ys) ≡ x ∷ y ∷ ys
placed_first x y ys less =
    ap (λ b. cond b (y ∷ placed x ys) (cond (y == x) (y ∷ ys) (x ∷ y ∷ ys))) (le-ltb y x (omega (arith, less)))
    ∙ ap (λ b. cond b (y ∷ ys) (x ∷ y ∷ ys)) (ne_eqb y x (λ same. omega (arith, less, same)))

pub union_nil : (xs : List ℕ) → Rises xs → union xs [] ≡ xs
union_nil [] rises = refl
union_nil (x ∷ []) rises = refl
union_nil (x ∷ y ∷ ys) rises = ap (placed x) (union_nil (y ∷ ys) rises.1) ∙ placed_first x y ys rises.0

-- ---- entries in the first slots
pub entries_from : (slot : ℕ) (entries : List Entry) → map entry_of (filed_from slot entries) ≡ entries
entries_from slot [] = refl
entries_from slot (e ∷ later) = ap (λ es. e ∷ es) (entries_from (slot + 1) later)

pub filed_entries : (entries : List Entry) → map entry_of (filed entries) ≡ entries
filed_entries entries = entries_from 0 entries

more_from : (slot : ℕ) (entries : List Entry) (e : Entry) → filed_from slot (entries ++ e ∷ []) ≡ filed_from slot entries ++ record { entry = e; slot = slot + length entries } ∷ []
more_from slot [] e = ap (λ (k : ℕ). record { entry = e; slot = k } ∷ []) (plus_none slot)
  where
    plus_none : (k : ℕ) → k ≡ k + 0
    plus_none k = omega arith
more_from slot (x ∷ later) e =
    ap (λ rest. record { entry = x; slot = slot } ∷ rest) (more_from (slot + 1) later e)
    ∙ ap (λ (k : ℕ). record { entry = x; slot = slot } ∷ (filed_from (slot + 1) later ++ record { entry = e; slot = k } ∷ [])) (next slot (length later))
  where
    next : (k m : ℕ) → (k + 1) + m ≡ k + suc m
    next k m = omega arith

pub filed_more : (entries : List Entry) (e : Entry) → filed (entries ++ e ∷ []) ≡ filed entries ++ record { entry = e; slot = length entries } ∷ []
filed_more entries e =
    more_from 0 entries e ∙ ap (λ (k : ℕ). filed entries ++ record { entry = e; slot = k } ∷ []) (from_zero (length entries))
  where
    from_zero : (k : ℕ) → 0 + k ≡ k
    from_zero k = omega arith

slots_from : (slot : ℕ) (entries : List Entry) → From slot (map slot_of (filed_from slot entries))
slots_from slot [] = record {}
slots_from slot (e ∷ later) = (le_refl slot, slots_from (slot + 1) later)

pub filed_rise : (entries : List Entry) → Rises (map slot_of (filed entries))
filed_rise entries = from_rises 0 (map slot_of (filed entries)) (slots_from 0 entries)
