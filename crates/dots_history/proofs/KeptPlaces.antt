-- The places that a view names.
use Rattle.std.proofs.Common.{◌≡◌, ℕ, ◌+◌, ◌<◌, ◌≤◌, zero, suc, Bool, true, false, cond, ◌||◌, List, [], ◌∷◌, ◌++◌, length, Some, refl, sym, ap, ◌∙◌, le_refl, le_trans, append_assoc, arith}
use Rattle.std.specs.Prelude.{option_to_list, slice_get, nat_lt, ◌==◌}
use Rattle.std.specs.List.{list_any, All}
use Rattle.std.proofs.lemmas.Bool.{cond_both, or_left, or_right, eq-eqb, ltb-true, ltb-false, lt-ltb, le-ltb, eqb-true, eqb-false, false_from_ne_true, cond-true, cond-false}
use Rattle.std.proofs.lemmas.List.Elements.{All-nil, All-cons, All-weaker}
use Rattle.dots_history.specs.declared.entry.Entry.{Entry}
use Rattle.dots_history.specs.declared.status.Status.TheVariants.{Open}
use Rattle.dots_history.specs.Histories.{Mitigation, live, status, is_recent, is_nil, stays}
use Rattle.dots_history.specs.Keeping.{is_first, names, pass, kept_by, kept, kept_places}
use Rattle.dots_history.specs.Slots.{Rises, placed}
use Rattle.dots_history.specs.KeptPlaces.{at_places, union, live_places, withdrawal_places, recent_places, last_places, held_places}
use Rattle.dots_history.proofs.Keeping.{Keeper}

-- ---- what stands there is what is kept
at_middle : (before : List Entry) (at : ℕ) (e : Entry) (later : List Entry) → at ≡ length before → slice_get (before ++ e ∷ later) at ≡ Some e
at_middle [] zero e later same = refl
at_middle [] (suc k) e later same = absurd (omega (arith, same))
at_middle (x ∷ before) zero e later same = absurd (omega (arith, same))
at_middle (x ∷ before) (suc k) e later same = at_middle before k e later (omega (arith, same))

length_more : (before : List Entry) (e : Entry) → length (before ++ e ∷ []) ≡ length before + 1
length_more [] e = omega arith
length_more (x ∷ before) e = let rest = length_more before e in omega (arith, rest)

at_kept : (keep : Keeper) (passed : List Mitigation) (before : List Entry) (at : ℕ) (entries : List Entry) → at ≡ length before
    → at_places (before ++ entries) (kept_places keep passed at entries) ≡ kept_by keep passed entries
at_kept keep passed before at [] same = refl
at_kept keep passed before at (e ∷ later) same =
    let long = length_more before e in
    let go = at_kept keep (pass passed e) (before ++ e ∷ []) (at + 1) later (omega (arith, same, long)) in
    let places = kept_places keep (pass passed e) (at + 1) later in
    by_test
    (keep passed e later)
    e
    (before ++ e ∷ later)
    at
    places
    (kept_by keep (pass passed e) later)
    (at_middle before at e later same)
    (ap (λ whole. at_places whole places) (sym (append_assoc before (e ∷ []) later)) ∙ go)
  where
    by_test : (b : Bool) (e : Entry) (whole : List Entry) (at : ℕ) (places : List ℕ) (few : List Entry) → slice_get whole at ≡ Some e
        → at_places whole places ≡ few → at_places whole (cond b (at ∷ places) places) ≡ cond b (e ∷ few) few
    by_test true e whole at places few found rest = ap (λ o. option_to_list o ++ at_places whole places) found ∙ ap (λ xs. e ∷ xs) rest
    by_test false e whole at places few found rest = rest

pub places_of_kept : (n t : ℕ) (entries : List Entry) → at_places entries (kept_places (names n t) [] 0 entries) ≡ kept n t entries
places_of_kept n t entries = at_kept (names n t) [] [] 0 entries (omega arith)

-- ---- they rise
abbrev From : ℕ → List ℕ → Type 0
From low [] = Unit {0}
From low (x ∷ xs) = (low ≤ x) × From (x + 1) xs

from_less : (low high : ℕ) (xs : List ℕ) → low ≤ high → From high xs → From low xs
from_less low high [] less rises = record {}
from_less low high (x ∷ xs) less rises = (le_trans less rises.0, rises.1)

places_from : (keep : Keeper) (passed : List Mitigation) (at : ℕ) (entries : List Entry) → From at (kept_places keep passed at entries)
places_from keep passed at [] = record {}
places_from keep passed at (e ∷ later) =
    let go = places_from keep (pass passed e) (at + 1) later in
    cond_both
    (keep passed e later)
    (at ∷ kept_places keep (pass passed e) (at + 1) later)
    (kept_places keep (pass passed e) (at + 1) later)
    (From at)
    (λ is. (le_refl at, go))
    (λ out. from_less at (at + 1) (kept_places keep (pass passed e) (at + 1) later) (omega arith) go)

from_rises : (low : ℕ) (xs : List ℕ) → From low xs → Rises xs
from_rises low [] from = record {}
from_rises low (x ∷ []) from = record {}
from_rises low (x ∷ y ∷ ys) from = let next = from.1.0 in (omega (arith, next), from_rises (x + 1) (y ∷ ys) from.1)

pub places_rise : (n t : ℕ) (entries : List Entry) → Rises (kept_places (names n t) [] 0 entries)
places_rise n t entries = from_rises 0 (kept_places (names n t) [] 0 entries) (places_from (names n t) [] 0 entries)

-- ---- each is a place of the history
places_below : (keep : Keeper) (passed : List Mitigation) (at : ℕ) (entries : List Entry)
    → All (λ place. place < at + length entries) (kept_places keep passed at entries)
places_below keep passed at [] = All-nil (λ place. place < at + length {A = Entry} [])
places_below keep passed at (e ∷ later) =
    let go = All-weaker
    (λ place. place < (at + 1) + length later)
    (λ place. place < at + length (e ∷ later))
    (λ place less. omega (arith, less))
    (kept_places keep (pass passed e) (at + 1) later)
    (places_below keep (pass passed e) (at + 1) later) in
    cond_both
    (keep passed e later)
    (at ∷ kept_places keep (pass passed e) (at + 1) later)
    (kept_places keep (pass passed e) (at + 1) later)
    (All (λ place. place < at + length (e ∷ later)))
    (λ is. All-cons (λ place. place < at + length (e ∷ later)) at (kept_places keep (pass passed e) (at + 1) later) (omega arith) go)
    (λ out. go)

pub places_inside : (n t : ℕ) (entries : List Entry) → All (λ place. place < length entries) (kept_places (names n t) [] 0 entries)
places_inside n t entries =
    All-weaker
    (λ place. place < 0 + length entries)
    (λ place. place < length entries)
    (λ place less. omega (arith, less))
    (kept_places (names n t) [] 0 entries)
    (places_below (names n t) [] 0 entries)

-- ---- the last is among them
has_last : (n t : ℕ) (passed : List Mitigation) (at last : ℕ) (xs : List Entry) (e : Entry) → at + length xs ≡ last
    → list_any (λ place. place == last) (kept_places (names n t) passed at (xs ++ e ∷ [])) ≡ true
has_last n t passed at last [] e same =
    ap (λ b. list_any (λ place. place == last) (cond b (at ∷ []) [])) is_named
    ∙ or_left (at == last) false (eq-eqb at last (omega (arith, same)))
  where
    is_named : names n t passed e [] ≡ true
    is_named =
        or_right
        (live t e (status e Open []) || list_any (is_first t e []) passed)
        ((is_recent n e [] || true) || stays e [])
        (or_left (is_recent n e [] || true) (stays e []) (or_right (is_recent n e []) true refl))
has_last n t passed at last (x ∷ xs) e same =
    let go = has_last n t (pass passed x) (at + 1) last xs e (omega (arith, same)) in
    cond_both
    (names n t passed x (xs ++ e ∷ []))
    (at ∷ kept_places (names n t) (pass passed x) (at + 1) (xs ++ e ∷ []))
    (kept_places (names n t) (pass passed x) (at + 1) (xs ++ e ∷ []))
    (λ places. list_any (λ place. place == last) places ≡ true)
    (λ is. or_right (at == last) (list_any (λ place. place == last) (kept_places (names n t) (pass passed x) (at + 1) (xs ++ e ∷ []))) go)
    (λ out. go)

pub last_is_kept : (n t : ℕ) (entries : List Entry) (e : Entry)
    → list_any (λ place. place == length entries) (kept_places (names n t) [] 0 (entries ++ e ∷ [])) ≡ true
last_is_kept n t entries e = has_last n t [] 0 (length entries) entries e (omega arith)

-- ---- they are the union of those of the parts
union_first : (at : ℕ) (xs ys : List ℕ) → From (at + 1) xs → union xs (at ∷ ys) ≡ at ∷ union xs ys
union_first at [] ys from = refl
union_first at (x ∷ xs) ys from =
    let above = from.0 in
    ap (placed x) (union_first at xs ys (from_less (at + 1) (x + 1) xs (omega (arith, above)) from.1))
    ∙ cond-true
    (nat_lt at x)
    (at ∷ placed x (union xs ys))
    (cond (at == x) (at ∷ union xs ys) (x ∷ at ∷ union xs ys))
    (lt-ltb at x (omega (arith, above)))

placed_front : (at : ℕ) (zs : List ℕ) → From (at + 1) zs → placed at zs ≡ at ∷ zs
placed_front at [] from = refl
placed_front at (z ∷ zs) from =
    let above = from.0 in
    cond-false (nat_lt z at) (z ∷ placed at zs) (cond (z == at) (z ∷ zs) (at ∷ z ∷ zs)) (le-ltb z at (omega (arith, above)))
    ∙ cond-false (z == at) (z ∷ zs) (at ∷ z ∷ zs) (false_from_ne_true (z == at) (λ is. let same = eqb-true z at is in omega (arith, above, same)))

placed_itself : (at : ℕ) (zs : List ℕ) → placed at (at ∷ zs) ≡ at ∷ zs
placed_itself at zs =
    cond-false (nat_lt at at) (at ∷ placed at zs) (cond (at == at) (at ∷ zs) (at ∷ at ∷ zs)) (le-ltb at at (le_refl at))
    ∙ cond-true (at == at) (at ∷ zs) (at ∷ at ∷ zs) (eq-eqb at at refl)

placed_from : (low x : ℕ) (zs : List ℕ) → low ≤ x → From low zs → From low (placed x zs)
placed_from low x [] less from = (less, record {})
placed_from low x (z ∷ zs) less from =
    cond_both
    (nat_lt z x)
    (z ∷ placed x zs)
    (cond (z == x) (z ∷ zs) (x ∷ z ∷ zs))
    (From low)
    (λ is. let below = lt_of z x is in (from.0, placed_from (z + 1) x zs (omega (arith, below)) from.1))
    (λ out.
    cond_both
    (z == x)
    (z ∷ zs)
    (x ∷ z ∷ zs)
    (From low)
    (λ same. from)
    (λ other.
    let above = ltb-false z x out in
    let apart = eqb-false z x other in
    (less, (omega (arith, above, apart), from.1))))
  where
    lt_of : (a b : ℕ) → nat_lt a b ≡ true → a < b
    lt_of a b is = ltb-true a b is

union_from : (low : ℕ) (xs ys : List ℕ) → From low xs → From low ys → From low (union xs ys)
union_from low [] ys from also = also
union_from low (x ∷ xs) ys from also =
    let above = from.0 in
    placed_from low x (union xs ys) above (union_from low xs ys (from_less low (x + 1) xs (omega (arith, above)) from.1) also)

abbrev either : Keeper → Keeper → Keeper
either a b passed e later = a passed e later || b passed e later

union_places : (a b : Keeper) (passed : List Mitigation) (at : ℕ) (entries : List Entry)
    → kept_places (either a b) passed at entries ≡ union (kept_places a passed at entries) (kept_places b passed at entries)
union_places a b passed at [] = refl
union_places a b passed at (e ∷ later) =
    let xs = kept_places a (pass passed e) (at + 1) later in
    let ys = kept_places b (pass passed e) (at + 1) later in
    by_tests
    (a passed e later)
    (b passed e later)
    at
    (kept_places (either a b) (pass passed e) (at + 1) later)
    xs
    ys
    (union_places a b (pass passed e) (at + 1) later)
    (places_from a (pass passed e) (at + 1) later)
    (places_from b (pass passed e) (at + 1) later)
  where
    by_tests : (p q : Bool) (at : ℕ) (all xs ys : List ℕ) → all ≡ union xs ys → From (at + 1) xs → From (at + 1) ys
        → cond (p || q) (at ∷ all) all ≡ union (cond p (at ∷ xs) xs) (cond q (at ∷ ys) ys)
    by_tests true true at all xs ys same from also =
        ap (λ zs. at ∷ zs) same ∙ sym (ap (placed at) (union_first at xs ys from) ∙ placed_itself at (union xs ys))
    by_tests true false at all xs ys same from also =
        ap (λ zs. at ∷ zs) same ∙ sym (placed_front at (union xs ys) (union_from (at + 1) xs ys from also))
    by_tests false true at all xs ys same from also = ap (λ zs. at ∷ zs) same ∙ sym (union_first at xs ys from)
    by_tests false false at all xs ys same from also = same

pub places_of_parts : (n t : ℕ) (entries : List Entry)
    → kept_places (names n t) [] 0 entries
    ≡ union
    (union (live_places t entries) (withdrawal_places t entries))
    (union (union (recent_places n entries) (last_places entries)) (held_places entries))
places_of_parts n t entries =
    let lives : Keeper = λ passed e later. live t e (status e Open later) in
    let withdrawals : Keeper = λ passed e later. list_any (is_first t e later) passed in
    let recents : Keeper = λ passed e later. is_recent n e later in
    let ends : Keeper = λ passed e later. is_nil later in
    let holds : Keeper = λ passed e later. stays e later in
    union_places (either lives withdrawals) (either (either recents ends) holds) [] 0 entries
    ∙ ap (λ xs. union xs (kept_places (either (either recents ends) holds) [] 0 entries)) (union_places lives withdrawals [] 0 entries)
    ∙ ap
    (union (union (live_places t entries) (withdrawal_places t entries)))
    (union_places (either recents ends) holds [] 0 entries ∙ ap (λ xs. union xs (held_places entries)) (union_places recents ends [] 0 entries))
