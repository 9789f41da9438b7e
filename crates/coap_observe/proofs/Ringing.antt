-- A ring with one slot more or less.
use Rattle.std.proofs.Common.{◌≡◌, ◌≢◌, ℕ, ◌+◌, ◌-◌, ◌<◌, Bool, true, false, cond, List, [], ◌∷◌, ◌++◌, length, set, refl, sym, ap, subst, ◌∙◌, arith}
use Rattle.std.specs.Prelude.{not, ◌||◌}
use Rattle.std.proofs.lemmas.Bool.{eqb-true, eq-eqb, ne_eqb, false≢true}
use Rattle.std.proofs.lemmas.List.{length-set}
use Rattle.coap_observe.specs.Links.{link, walk, Linked, Each, Apart, Distinct, IsRing}
use Rattle.coap_observe.specs.Orders.{is_slot, has_slot, without}
use Rattle.coap_observe.proofs.Linking.{walked, walk_length, each_front, each_back, each_both, each_two, each_weaker, before_to, behind_from, linked_front, linked_back, unlinked, linked_last}

-- ---- apart

pub apart_from : (slot : ℕ) (xs : List ℕ) → has_slot slot xs ≡ false → Apart slot xs
apart_from slot [] none = record {}
apart_from slot (x ∷ xs) none = by_test (is_slot slot x) refl none (apart_from slot xs)
  where
    by_test : (b : Bool) → is_slot slot x ≡ b → b || has_slot slot xs ≡ false → (has_slot slot xs ≡ false → Apart slot xs) → Apart slot (x ∷ xs)
    by_test true is none rest = absurd (false≢true (sym none))
    by_test false is none rest = (λ same. absurd (false≢true (sym is ∙ eq-eqb x slot same)), rest none)

pub turned : (slot : ℕ) (xs : List ℕ) → Each (λ x. slot ≢ x) xs → Apart slot xs
turned slot xs each = each_weaker (λ x. slot ≢ x) (λ x. x ≢ slot) xs (λ x off same. off (sym same)) each

-- ---- distinct

pub distinct_last : (slot : ℕ) (xs : List ℕ) → Distinct xs → Apart slot xs → Distinct (xs ++ slot ∷ [])
distinct_last slot [] distinct apart = (record {}, record {})
distinct_last slot (x ∷ xs) distinct apart = (
  each_both (λ y. y ≢ x) xs (slot ∷ []) distinct.0 (λ same. apart.0 (sym same), record {}),
  distinct_last slot xs distinct.1 apart.1,
)

pub distinct_front : (xs ys : List ℕ) → Distinct (xs ++ ys) → Distinct xs
distinct_front [] ys distinct = record {}
distinct_front (x ∷ xs) ys distinct = (each_front (λ y. y ≢ x) xs ys distinct.0, distinct_front xs ys distinct.1)

pub distinct_back : (xs ys : List ℕ) → Distinct (xs ++ ys) → Distinct ys
distinct_back [] ys distinct = distinct
distinct_back (x ∷ xs) ys distinct = distinct_back xs ys distinct.1

pub crossing : (xs ys : List ℕ) → Distinct (xs ++ ys) → Each (λ x. Apart x ys) xs
crossing [] ys distinct = record {}
crossing (x ∷ xs) ys distinct = (each_back (λ y. y ≢ x) xs ys distinct.0, crossing xs ys distinct.1)

pub each_less : (P : ℕ → Type 0) (slot : ℕ) (ys zs : List ℕ) → Each P (ys ++ slot ∷ zs) → Each P (ys ++ zs)
each_less P slot ys zs each = each_both P ys zs (each_front P ys (slot ∷ zs) each) (each_back P ys (slot ∷ zs) each).1

pub distinct_less : (slot : ℕ) (ys zs : List ℕ) → Distinct (ys ++ slot ∷ zs) → Distinct (ys ++ zs)
distinct_less slot [] zs distinct = distinct.1
distinct_less slot (y ∷ ys) zs distinct = (each_less (λ x. x ≢ y) slot ys zs distinct.0, distinct_less slot ys zs distinct.1)

pub apart_front : (slot : ℕ) (ys zs : List ℕ) → Distinct (ys ++ slot ∷ zs) → Apart slot ys
apart_front slot ys zs distinct = turned slot ys (each_weaker (λ y. Apart y (slot ∷ zs)) (λ y. slot ≢ y) ys (λ y apart. apart.0) (crossing ys (slot ∷ zs) distinct))

pub apart_back : (slot : ℕ) (ys zs : List ℕ) → Distinct (ys ++ slot ∷ zs) → Apart slot zs
apart_back slot ys zs distinct = (distinct_back ys (slot ∷ zs) distinct).0

-- ---- a slot among others

pub record IsAmong (slot : ℕ) (xs : List ℕ) : Type 0 where
  pub front : List ℕ
  pub back : List ℕ
  pub is : xs ≡ front ++ slot ∷ back

pub among : (slot : ℕ) (xs : List ℕ) → has_slot slot xs ≡ true → IsAmong slot xs
among slot [] there = absurd (false≢true there)
among slot (x ∷ xs) there = by_test (is_slot slot x) refl there (among slot xs)
  where
    by_test : (b : Bool) → is_slot slot x ≡ b → b || has_slot slot xs ≡ true → (has_slot slot xs ≡ true → IsAmong slot xs) → IsAmong slot (x ∷ xs)
    by_test true is there rest = record { front = []; back = xs; is = ap (λ y. y ∷ xs) (eqb-true x slot is) }
    by_test false is there rest =
        let more = rest there in
        record { front = x ∷ more.front; back = more.back; is = ap (λ ys. x ∷ ys) more.is }

without_apart : (slot : ℕ) (xs : List ℕ) → Apart slot xs → without slot xs ≡ xs
without_apart slot [] apart = refl
without_apart slot (x ∷ xs) apart =
    ap (λ b. cond (not b) (x ∷ without slot xs) (without slot xs)) (ne_eqb x slot apart.0)
    ∙ ap (λ ys. x ∷ ys) (without_apart slot xs apart.1)

pub without_among : (slot : ℕ) (ys zs : List ℕ) → Apart slot ys → Apart slot zs → without slot (ys ++ slot ∷ zs) ≡ ys ++ zs
without_among slot [] zs front back =
    ap (λ b. cond (not b) (slot ∷ without slot zs) (without slot zs)) (eq-eqb slot slot refl)
    ∙ without_apart slot zs back
without_among slot (y ∷ ys) zs front back =
    ap (λ b. cond (not b) (y ∷ without slot (ys ++ slot ∷ zs)) (without slot (ys ++ slot ∷ zs))) (ne_eqb y slot front.0)
    ∙ ap (λ xs. y ∷ xs) (without_among slot ys zs front.1 back)

-- ---- what the ring says

pub low : (room : ℕ) (xs : List ℕ) → Each (λ x. x < room) xs → Each (λ x. x < room + 1) xs
low room xs each = each_weaker (λ x. x < room) (λ x. x < room + 1) xs (λ x less. omega (arith, less)) each

off_room : (room : ℕ) (xs : List ℕ) → Each (λ x. x < room) xs → Apart room xs
off_room room xs each = each_weaker (λ x. x < room) (λ x. x ≢ room) xs (λ x less same. absurd (omega (arith, less, same))) each

-- the one before the room is a slot or the room itself
pub last_low : (behind before : List ℕ) (count room : ℕ) → IsRing behind before count room → link before room < room + 1
last_low behind before count room ring =
    before_to (λ x. x < room + 1) behind before room room (walk count behind room) ring.linked (omega arith, low room (walk count behind room) ring.below)

pub record IsNear (behind before : List ℕ) (room slot : ℕ) : Type 0 where
  pub slot_low : slot < room
  pub before_low : link before slot < room + 1
  pub behind_low : link behind slot < room + 1

near_among : (behind before : List ℕ) (room slot : ℕ) (ys zs xs : List ℕ) → xs ≡ ys ++ slot ∷ zs → Linked behind before room xs room → Each (λ x. x < room) xs → IsNear behind before room slot
near_among behind before room slot ys zs xs is linked below =
    let all = subst (λ l. Linked behind before room l room) is linked in
    let lows = subst (Each (λ x. x < room)) is below in
    let front = each_front (λ x. x < room) ys (slot ∷ zs) lows in
    let back = each_back (λ x. x < room) ys (slot ∷ zs) lows in
    record {
      slot_low = back.0;
      before_low = before_to (λ x. x < room + 1) behind before room slot ys (linked_front behind before room slot room ys zs all) (omega arith, low room ys front);
      behind_low =
          behind_from (λ x. x < room + 1) behind before slot room zs (linked_back behind before room slot room ys zs all)
          (each_both (λ x. x < room + 1) zs (room ∷ []) (low room zs back.1) (omega arith, record {}));
    }

pub near : (behind before : List ℕ) (count room slot : ℕ) → IsRing behind before count room → has_slot slot (walk count behind room) ≡ true → IsNear behind before room slot
near behind before count room slot ring there =
    let at = among slot (walk count behind room) there in
    near_among behind before room slot at.front at.back (walk count behind room) at.is ring.linked ring.below

-- ---- one more slot

pub length_last : (x : ℕ) (xs : List ℕ) → length (xs ++ x ∷ []) ≡ length xs + 1
length_last x [] = omega arith
length_last x (y ∷ xs) = let rest = length_last x xs in omega (arith, rest)

pub record IsRingOf (behind before : List ℕ) (count room : ℕ) (slots : List ℕ) : Type 0 where
  pub slots_are : walk count behind room ≡ slots
  pub ring : IsRing behind before count room

-- a ring by the slots that it has
ring_of : (behind before : List ℕ) (count room : ℕ) (slots : List ℕ) → length slots ≡ count → Linked behind before room slots room → Distinct slots → Each (λ x. x < room) slots
    → length behind ≡ room + 1 → length before ≡ room + 1 → IsRingOf behind before count room slots
ring_of behind before count room slots long linked distinct below behind_size before_size =
    let are : walk count behind room ≡ slots = ap (λ n. walk n behind room) (sym long) ∙ walked behind before room room slots linked in
    record {
      slots_are = are;
      ring = record {
        linked = subst (λ l. Linked behind before room l room) (sym are) linked;
        distinct = subst Distinct (sym are) distinct;
        below = subst (Each (λ x. x < room)) (sym are) below;
        behind_size = behind_size;
        before_size = before_size;
      };
    }

pub ring_last : (behind before : List ℕ) (count room slot last : ℕ) → IsRing behind before count room → last ≡ link before room → slot < room → has_slot slot (walk count behind room) ≡ false
    → IsRingOf (set (set behind last slot) slot room) (set (set before slot last) room slot) (count + 1) room (walk count behind room ++ slot ∷ [])
ring_last behind before count room slot last ring is_last slot_less none =
    let slots = walk count behind room in
    let apart = apart_from slot slots none in
    let last_less = last_low behind before count room ring in
    let long = walk_length count behind room in
    let more = length_last slot slots in
    let one = length-set (set behind last slot) slot room in
    let two = length-set behind last slot in
    let three = length-set (set before slot last) room slot in
    let four = length-set before slot last in
    ring_of
    (set (set behind last slot) slot room)
    (set (set before slot last) room slot)
    (count + 1)
    room
    (slots ++ slot ∷ [])
    (omega (arith, long, more))
    (linked_last behind before last slot room room slots is_last (omega (arith, ring.behind_size, last_less, is_last)) (omega (arith, ring.behind_size, slot_less))
    (omega (arith, ring.before_size, slot_less)) (omega (arith, ring.before_size)) (off_room room slots ring.below, ring.distinct)
    (λ same. absurd (omega (arith, same, slot_less)), apart) (λ same. absurd (omega (arith, same, slot_less))) (off_room room slots ring.below) ring.linked)
    (distinct_last slot slots ring.distinct apart)
    (each_both (λ x. x < room) slots (slot ∷ []) ring.below (slot_less, record {}))
    (omega (arith, one, two, ring.behind_size))
    (omega (arith, three, four, ring.before_size))

-- ---- one slot less

less_among : (behind before : List ℕ) (room slot p q : ℕ) (ys zs xs : List ℕ) → xs ≡ ys ++ slot ∷ zs → p ≡ link before slot → q ≡ link behind slot → p < length behind → q < length before
    → Linked behind before room xs room → Distinct xs → Each (λ x. x < room) xs → Linked (set behind p q) (set before q p) room (ys ++ zs) room
less_among behind before room slot p q ys zs xs is is_p is_q p_less q_less linked distinct below =
    let all = subst (λ l. Linked behind before room l room) is linked in
    let lows = subst (Each (λ x. x < room)) is below in
    let apart = subst Distinct is distinct in
    let front = each_front (λ x. x < room) ys (slot ∷ zs) lows in
    let back = each_back (λ x. x < room) ys (slot ∷ zs) lows in
    unlinked behind before p q room slot room ys zs is_p is_q p_less q_less
    (off_room room ys front, distinct_front ys (slot ∷ zs) apart)
    (each_two (λ y. Apart y (slot ∷ zs)) (λ y. y < room) (λ y. Apart y (zs ++ room ∷ [])) ys
    (λ y off less. each_both (λ x. x ≢ y) zs (room ∷ []) off.1 (λ same. absurd (omega (arith, same, less)), record {}))
    (crossing ys (slot ∷ zs) apart) front)
    (off_room room zs back.1)
    (distinct_last room zs (distinct_back ys (slot ∷ zs) apart).1 (off_room room zs back.1))
    (linked_front behind before room slot room ys zs all)
    (linked_back behind before room slot room ys zs all)

pub length_among : (slot : ℕ) (ys zs : List ℕ) → length (ys ++ slot ∷ zs) ≡ length (ys ++ zs) + 1
length_among slot [] zs = omega arith
length_among slot (y ∷ ys) zs = let rest = length_among slot ys zs in omega (arith, rest)

pub ring_less : (behind before : List ℕ) (count room slot p q : ℕ) → IsRing behind before count room → p ≡ link before slot → q ≡ link behind slot → has_slot slot (walk count behind room) ≡ true
    → IsRingOf (set behind p q) (set before q p) (count - 1) room (without slot (walk count behind room))
ring_less behind before count room slot p q ring is_p is_q there =
    let slots = walk count behind room in
    let at = among slot slots there in
    let lows = near behind before count room slot ring there in
    let apart = subst Distinct at.is ring.distinct in
    let are : without slot slots ≡ at.front ++ at.back =
    ap (without slot) at.is ∙ without_among slot at.front at.back (apart_front slot at.front at.back apart) (apart_back slot at.front at.back apart) in
    let long = walk_length count behind room in
    let less = ap length at.is ∙ length_among slot at.front at.back in
    let one = length-set behind p q in
    let two = length-set before q p in
    subst (IsRingOf (set behind p q) (set before q p) (count - 1) room) (sym are)
    (ring_of
    (set behind p q)
    (set before q p)
    (count - 1)
    room
    (at.front ++ at.back)
    (omega (arith, long, less))
    (less_among behind before room slot p q at.front at.back slots at.is is_p is_q (omega (arith, is_p, lows.before_low, ring.behind_size)) (omega (arith, is_q, lows.behind_low, ring.before_size))
    ring.linked ring.distinct ring.below)
    (distinct_less slot at.front at.back apart)
    (each_less (λ x. x < room) slot at.front at.back (subst (Each (λ x. x < room)) at.is ring.below))
    (omega (arith, one, ring.behind_size))
    (omega (arith, two, ring.before_size)))
