-- Slots at positions, and what a slot that comes or goes makes of them.
use Rattle.std.proofs.Common.{◌≡◌, ◌≢◌, ℕ, zero, suc, ◌+◌, ◌<◌, ◌≤◌, Bool, true, false, cond, List, [], ◌∷◌, ◌++◌, length, get_or, set, replicate, take, Option, None, Some, refl, sym, ap, subst, ◌∙◌, arith, add-one}
use Rattle.std.specs.Prelude.{not, ◌||◌, ◌==◌, unwrap_or}
use Rattle.std.proofs.lemmas.Bool.{eq-eqb, ne_eqb, false≢true}
use Rattle.std.proofs.lemmas.Grind.{get_or-set_at}
use Rattle.std.proofs.lemmas.List.{get_or-set_other, length-set}
use Rattle.coap_observe.specs.Links.{Each, Apart, Distinct}
use Rattle.coap_observe.specs.Orders.{is_slot, has_slot, without}
use Rattle.coap_observe.specs.Places.{PlacesValue, IsFreeFrom, IsPlaced, ArePlaced}
use Rattle.coap_observe.specs.Spots.{filled}
use Rattle.coap_observe.proofs.Filling.{filled_vacant}
use Rattle.coap_observe.proofs.Linking.{each_at, each_back, each_both, each_two}
use Rattle.coap_observe.proofs.Ringing.{apart_from, among, distinct_last, without_among}

some_same : (x y : ℕ) → Some x ≡ Some y → x ≡ y
some_same x y is = ap (λ o. unwrap_or o x) is

-- ---- spots

each_at_spot : (P : ℕ → Type 0) (spots : List (Option ℕ)) (position slot : ℕ) → Each P (filled spots) → get_or spots position None ≡ Some slot → P slot
each_at_spot P [] position slot each is = absurd (cc)
each_at_spot P (None ∷ spots) zero slot each is = absurd (cc)
each_at_spot P (Some x ∷ spots) zero slot each is = subst P (some_same x slot is) each.0
each_at_spot P (None ∷ spots) (suc position) slot each is = each_at_spot P spots position slot each is
each_at_spot P (Some x ∷ spots) (suc position) slot each is = each_at_spot P spots position slot each.1 is

pub within_spots : (spots : List (Option ℕ)) (position slot : ℕ) → get_or spots position None ≡ Some slot → position < length spots
within_spots [] position slot is = absurd (cc)
within_spots (spot ∷ spots) zero slot is = omega arith
within_spots (spot ∷ spots) (suc position) slot is = let rest = within_spots spots position slot is in omega (arith, rest)

-- ---- free spots

free_vacant : (n : ℕ) → IsFreeFrom zero (replicate n None)
free_vacant zero = record {}
free_vacant (suc n) = (refl, free_vacant n)

free_filled : (spots : List (Option ℕ)) → IsFreeFrom zero spots → filled spots ≡ []
free_filled [] free = refl
free_filled (None ∷ spots) free = free_filled spots free.1
free_filled (Some slot ∷ spots) free = let no = free.0 in absurd (cc)

free_at : (spots : List (Option ℕ)) (given position : ℕ) → IsFreeFrom given spots → given ≤ position → get_or spots position None ≡ None
free_at [] given position free over = refl
free_at (spot ∷ spots) zero zero free over = free.0
free_at (spot ∷ spots) zero (suc position) free over = free_at spots zero position free.1 (omega arith)
free_at (spot ∷ spots) (suc given) zero free over = absurd (omega (arith, over))
free_at (spot ∷ spots) (suc given) (suc position) free over = free_at spots given position free (omega (arith, over))

free_more : (spots : List (Option ℕ)) (given slot : ℕ) → IsFreeFrom given spots → IsFreeFrom (suc given) (set spots given (Some slot))
free_more [] given slot free = record {}
free_more (spot ∷ spots) zero slot free = free.1
free_more (spot ∷ spots) (suc given) slot free = free_more spots given slot free

free_less : (spots : List (Option ℕ)) (given position : ℕ) → IsFreeFrom given spots → IsFreeFrom given (set spots position None)
free_less [] given position free = record {}
free_less (spot ∷ spots) zero zero free = (refl, free.1)
free_less (spot ∷ spots) zero (suc position) free = (free.0, free_less spots zero position free.1)
free_less (spot ∷ spots) (suc given) zero free = free
free_less (spot ∷ spots) (suc given) (suc position) free = free_less spots given position free

-- ---- one more slot

pub filled_more : (spots : List (Option ℕ)) (given slot : ℕ) → given < length spots → IsFreeFrom given spots → filled (set spots given (Some slot)) ≡ filled spots ++ slot ∷ []
filled_more [] given slot less free = absurd (omega (arith, less))
filled_more (spot ∷ spots) zero slot less free =
    ap (λ slots. slot ∷ slots) (free_filled spots free.1)
    ∙ sym (ap (λ slots. slots ++ slot ∷ []) (free_filled (spot ∷ spots) free))
filled_more (None ∷ spots) (suc given) slot less free = filled_more spots given slot (omega (arith, less)) free
filled_more (Some x ∷ spots) (suc given) slot less free = ap (λ slots. x ∷ slots) (filled_more spots given slot (omega (arith, less)) free)

placed_other : (spots : List (Option ℕ)) (positions : List ℕ) (given slot other : ℕ) → get_or spots given None ≡ None → other ≢ slot → IsPlaced spots positions other
    → IsPlaced (set spots given (Some slot)) (set positions slot given) other
placed_other spots positions given slot other none off placed =
    let long = length-set positions slot given in
    let same : get_or (set positions slot given) other 0 ≡ get_or positions other 0 = get_or-set_other positions slot other given 0 off in
    let apart : get_or positions other 0 ≢ given = λ is. let no = sym placed.1 ∙ ap (λ k. get_or spots k None) is ∙ none in absurd (cc) in (
      omega (arith, placed.0, long),
      ap (λ k. get_or (set spots given (Some slot)) k None) same ∙ get_or-set_other spots given (get_or positions other 0) (Some slot) None apart ∙ placed.1,
    )

pub placed_more : (spots : List (Option ℕ)) (positions : List ℕ) (given slot : ℕ) → ArePlaced spots positions given → slot < length positions → given < length spots
    → has_slot slot (filled spots) ≡ false → ArePlaced (set spots given (Some slot)) (set positions slot given) (given + 1)
placed_more spots positions given slot all below left new =
    let apart = apart_from slot (filled spots) new in
    let are = filled_more spots given slot left all.free in
    let none = free_at spots given given all.free (omega arith) in
    let long = length-set spots given (Some slot) in
    let wide = length-set positions slot given in
    let at : get_or (set positions slot given) slot 0 ≡ given = get_or-set_at positions slot slot given 0 refl below in
    let own : IsPlaced (set spots given (Some slot)) (set positions slot given) slot = (
      omega (arith, below, wide),
      ap (λ k. get_or (set spots given (Some slot)) k None) at ∙ get_or-set_at spots given given (Some slot) None refl left,
    ) in
    let P = IsPlaced (set spots given (Some slot)) (set positions slot given) in
    let others : Each P (filled spots) =
    each_two (IsPlaced spots positions) (λ k. k ≢ slot) P (filled spots) (λ k placed off. placed_other spots positions given slot k none off placed) all.placed apart in
    record {
      within = omega (arith, left, long);
      free = subst (λ k. IsFreeFrom k (set spots given (Some slot))) (sym (add-one given)) (free_more spots given slot all.free);
      placed = subst (Each P) (sym are) (each_both P (filled spots) (slot ∷ []) others (own, record {}));
      distinct = subst Distinct (sym are) (distinct_last slot (filled spots) all.distinct apart);
    }

-- ---- one slot less

pub filled_less : (spots : List (Option ℕ)) (position slot : ℕ) → get_or spots position None ≡ Some slot → Distinct (filled spots)
    → filled (set spots position None) ≡ without slot (filled spots)
filled_less [] position slot is distinct = absurd (cc)
filled_less (None ∷ spots) zero slot is distinct = absurd (cc)
filled_less (Some x ∷ spots) zero slot is distinct =
    let same = some_same x slot is in
    sym
    (ap (λ k. without slot (k ∷ filled spots)) same
    ∙ without_among slot [] (filled spots) (record {}) (subst (λ k. Apart k (filled spots)) same distinct.0))
filled_less (None ∷ spots) (suc position) slot is distinct = filled_less spots position slot is distinct
filled_less (Some x ∷ spots) (suc position) slot is distinct =
    let off : x ≢ slot = λ same. each_at_spot (λ k. k ≢ x) spots position slot distinct.0 is (sym same) in
    ap (λ slots. x ∷ slots) (filled_less spots position slot is distinct.1)
    ∙ sym (ap (λ b. cond (not b) (x ∷ without slot (filled spots)) (without slot (filled spots))) (ne_eqb x slot off))

each_without : (P : ℕ → Type 0) (slot : ℕ) (xs : List ℕ) → Each P xs → Each P (without slot xs)
each_without P slot [] each = record {}
each_without P slot (x ∷ xs) each = by_test (is_slot slot x) (each_without P slot xs each.1)
  where
    by_test : (b : Bool) → Each P (without slot xs) → Each P (cond (not b) (x ∷ without slot xs) (without slot xs))
    by_test true rest = rest
    by_test false rest = (each.0, rest)

off_without : (slot : ℕ) (xs : List ℕ) → Apart slot (without slot xs)
off_without slot [] = record {}
off_without slot (x ∷ xs) = by_test (x == slot) refl (off_without slot xs)
  where
    by_test : (b : Bool) → (x == slot) ≡ b → Apart slot (without slot xs) → Apart slot (cond (not b) (x ∷ without slot xs) (without slot xs))
    by_test true same rest = rest
    by_test false same rest = (λ is. absurd (false≢true (sym same ∙ eq-eqb x slot is)), rest)

distinct_without : (slot : ℕ) (xs : List ℕ) → Distinct xs → Distinct (without slot xs)
distinct_without slot [] distinct = record {}
distinct_without slot (x ∷ xs) distinct = by_test (is_slot slot x) (distinct_without slot xs distinct.1)
  where
    by_test : (b : Bool) → Distinct (without slot xs) → Distinct (cond (not b) (x ∷ without slot xs) (without slot xs))
    by_test true rest = rest
    by_test false rest = (each_without (λ k. k ≢ x) slot xs distinct.0, rest)

pub its_position : (spots : List (Option ℕ)) (positions : List ℕ) (given slot : ℕ) → ArePlaced spots positions given → has_slot slot (filled spots) ≡ true → IsPlaced spots positions slot
its_position spots positions given slot all there =
    let at = among slot (filled spots) there in
    (each_back (IsPlaced spots positions) at.front (slot ∷ at.back) (subst (Each (IsPlaced spots positions)) at.is all.placed)).0

placed_still : (spots : List (Option ℕ)) (positions : List ℕ) (position slot other : ℕ) → get_or spots position None ≡ Some slot → other ≢ slot → IsPlaced spots positions other
    → IsPlaced (set spots position None) positions other
placed_still spots positions position slot other is off placed =
    let apart : get_or positions other 0 ≢ position = λ same. off (some_same other slot (sym placed.1 ∙ ap (λ k. get_or spots k None) same ∙ is)) in
    (placed.0, get_or-set_other spots position (get_or positions other 0) None None apart ∙ placed.1)

pub placed_less : (spots : List (Option ℕ)) (positions : List ℕ) (given position slot : ℕ) → ArePlaced spots positions given → get_or spots position None ≡ Some slot
    → ArePlaced (set spots position None) positions given
placed_less spots positions given position slot all is =
    let are = filled_less spots position slot is all.distinct in
    let long = length-set spots position None in
    let P = IsPlaced (set spots position None) positions in
    let others : Each P (without slot (filled spots)) =
    each_two (IsPlaced spots positions) (λ k. k ≢ slot) P (without slot (filled spots)) (λ k placed off. placed_still spots positions position slot k is off placed)
    (each_without (IsPlaced spots positions) slot (filled spots) all.placed) (off_without slot (filled spots)) in
    record {
      within = omega (arith, all.within, long);
      free = free_less spots given position all.free;
      placed = subst (Each P) (sym are) others;
      distinct = subst Distinct (sym are) (distinct_without slot (filled spots) all.distinct);
    }

-- ---- those of an order that have a position

pub fresh_at : (xs : List ℕ) (n : ℕ) → n < length xs → Distinct xs → has_slot (get_or xs n 0) (take n xs) ≡ false
fresh_at [] n less distinct = absurd (omega (arith, less))
fresh_at (x ∷ xs) zero less distinct = refl
fresh_at (x ∷ xs) (suc n) less distinct =
    let off = each_at (λ k. k ≢ x) xs n distinct.0 (omega (arith, less)) in
    ap (λ b. b || has_slot (get_or xs n 0) (take n xs)) (ne_eqb x (get_or xs n 0) (λ same. off (sym same)))
    ∙ fresh_at xs n (omega (arith, less)) distinct.1

-- ---- no slots

pub placed_none : (spots : List (Option ℕ)) (positions : List ℕ) (n : ℕ) → spots ≡ replicate n None → ArePlaced spots positions 0
placed_none spots positions n is =
    subst (λ all. ArePlaced all positions 0) (sym is)
    (record {
      within = omega arith;
      free = free_vacant n;
      placed = subst (Each (IsPlaced (replicate n None) positions)) (sym (filled_vacant n)) (record {});
      distinct = subst Distinct (sym (filled_vacant n)) (record {});
    })

pub filled_none : (spots : List (Option ℕ)) (n : ℕ) → spots ≡ replicate n None → filled spots ≡ []
filled_none spots n is = ap filled is ∙ filled_vacant n

-- ---- the value

abbrev pub value : ℕ → ℕ → ℕ → List ℕ → PlacesValue
value room width given slots = record { room = room; width = width; given = given; slots = slots }

pub same_value : (room other_room width other_width given other_given : ℕ) (slots other_slots : List ℕ) → room ≡ other_room → width ≡ other_width → given ≡ other_given → slots ≡ other_slots
    → value room width given slots ≡ value other_room other_width other_given other_slots
same_value room other_room width other_width given other_given slots other_slots rooms widths givens same =
    ap (λ r. value r width given slots) rooms
    ∙ ap (λ w. value other_room w given slots) widths
    ∙ ap (λ g. value other_room other_width g slots) givens
    ∙ ap (λ s. value other_room other_width other_given s) same
