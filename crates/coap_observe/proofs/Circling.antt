-- Rings over the same links, and what a slot that comes to one of them or goes from it makes of all.
use Rattle.std.proofs.Common.{◌≡◌, ◌≢◌, ℕ, zero, suc, ◌+◌, ◌-◌, ◌<◌, ◌≤◌, true, List, [], ◌∷◌, ◌++◌, length, map, get_or, set, refl, sym, ap, subst, ◌∙◌, arith}
use Rattle.std.proofs.lemmas.Bool.{false≢true}
use Rattle.std.proofs.lemmas.List.{get_or-set_other, get_or_default, length-set, length-map, append_assoc}
use Rattle.coap_observe.specs.declared.rings.Ring.{Ring}
use Rattle.coap_observe.specs.Links.{link, walk, Linked, Each, Apart, Distinct}
use Rattle.coap_observe.specs.Orders.{has_slot, without}
use Rattle.coap_observe.specs.Rings.{RingValue, ring_at, with_ring, one_more, one_less, IsOutside, slots_of, ring_of, counted, discounted, nodes_of, nodes, IsLinked, AreLinked, StartBehind, AreRings}
use Rattle.coap_observe.proofs.Linking.{walked, walk_length, walk_at, each_at, each_front, each_back, each_both, each_two, each_weaker, before_to, behind_from, linked_front, linked_back, unlinked, linked_last}
use Rattle.coap_observe.proofs.Ringing.{distinct_last, distinct_front, distinct_back, crossing, each_less, distinct_less, apart_front, apart_back, among, without_among, length_last, length_among}

-- ---- one number more

pub record HasOneMore (slot : ℕ) (less more : List ℕ) : Type 0 where
  pub front : List ℕ
  pub back : List ℕ
  pub less_is : less ≡ front ++ back
  pub more_is : more ≡ front ++ slot ∷ back

behind_others : (slot : ℕ) (xs less more : List ℕ) → HasOneMore slot less more → HasOneMore slot (xs ++ less) (xs ++ more)
behind_others slot xs less more one = record {
  front = xs ++ one.front;
  back = one.back;
  less_is = ap (λ ys. xs ++ ys) one.less_is ∙ sym (append_assoc xs one.front one.back);
  more_is = ap (λ ys. xs ++ ys) one.more_is ∙ sym (append_assoc xs one.front (slot ∷ one.back));
}

each_one_more : (P : ℕ → Type 0) (slot : ℕ) (front back : List ℕ) → Each P (front ++ back) → P slot → Each P (front ++ slot ∷ back)
each_one_more P slot front back each one = each_both P front (slot ∷ back) (each_front P front back each) (one, each_back P front back each)

pub each_more : (P : ℕ → Type 0) (slot : ℕ) (less more : List ℕ) → HasOneMore slot less more → Each P less → P slot → Each P more
each_more P slot less more has each one =
    subst (Each P) (sym has.more_is) (each_one_more P slot has.front has.back (subst (Each P) has.less_is each) one)

pub each_fewer : (P : ℕ → Type 0) (slot : ℕ) (less more : List ℕ) → HasOneMore slot less more → Each P more → Each P less
each_fewer P slot less more has each = subst (Each P) (sym has.less_is) (each_less P slot has.front has.back (subst (Each P) has.more_is each))

distinct_one_more : (slot : ℕ) (front back : List ℕ) → Distinct (front ++ back) → Apart slot (front ++ back) → Distinct (front ++ slot ∷ back)
distinct_one_more slot [] back distinct apart = (apart, distinct)
distinct_one_more slot (x ∷ front) back distinct apart = (
  each_one_more (λ y. y ≢ x) slot front back distinct.0 (λ same. apart.0 (sym same)),
  distinct_one_more slot front back distinct.1 apart.1,
)

pub distinct_more : (slot : ℕ) (less more : List ℕ) → HasOneMore slot less more → Distinct less → Apart slot less → Distinct more
distinct_more slot less more has distinct apart =
    subst Distinct (sym has.more_is) (distinct_one_more slot has.front has.back (subst Distinct has.less_is distinct) (subst (Apart slot) has.less_is apart))

pub distinct_fewer : (slot : ℕ) (less more : List ℕ) → HasOneMore slot less more → Distinct more → Distinct less
distinct_fewer slot less more has distinct = subst Distinct (sym has.less_is) (distinct_less slot has.front has.back (subst Distinct has.more_is distinct))

gone_apart : (slot : ℕ) (front back : List ℕ) → Distinct (front ++ slot ∷ back) → Apart slot (front ++ back)
gone_apart slot front back distinct =
    each_both (λ x. x ≢ slot) front back (apart_front slot front back distinct) (apart_back slot front back distinct)

pub apart_fewer : (slot : ℕ) (less more : List ℕ) → HasOneMore slot less more → Distinct more → Apart slot less
apart_fewer slot less more has distinct = subst (Apart slot) (sym has.less_is) (gone_apart slot has.front has.back (subst Distinct has.more_is distinct))

-- those behind are none of those in front
crossing_back : (xs ys : List ℕ) → Distinct (xs ++ ys) → Each (λ y. Apart y xs) ys
crossing_back [] ys distinct = each_none ys
  where
    each_none : (ys : List ℕ) → Each (λ y. Apart y []) ys
    each_none [] = record {}
    each_none (y ∷ ys) = (record {}, each_none ys)
crossing_back (x ∷ xs) ys distinct =
    each_two (λ y. y ≢ x) (λ y. Apart y xs) (λ y. Apart y (x ∷ xs)) ys (λ y off apart. (λ same. off (sym same), apart))
    (each_back (λ y. y ≢ x) xs ys distinct.0)
    (crossing_back xs ys distinct.1)

-- ---- links that are the same

abbrev pub SameLinks : List ℕ → List ℕ → List ℕ → Type 0
SameLinks old new xs = Each (λ x. link new x ≡ link old x) xs

same_set : (links : List ℕ) (p v : ℕ) (xs : List ℕ) → Apart p xs → SameLinks links (set links p v) xs
same_set links p v xs apart = each_weaker (λ x. x ≢ p) (λ x. link (set links p v) x ≡ link links x) xs (λ x off. get_or-set_other links p x v 0 off) apart

same_two : (links : List ℕ) (p v q w : ℕ) (xs : List ℕ) → Apart p xs → Apart q xs → SameLinks links (set (set links p v) q w) xs
same_two links p v q w xs apart off =
    each_two (λ x. x ≢ p) (λ x. x ≢ q) (λ x. link (set (set links p v) q w) x ≡ link links x) xs
    (λ x out far. get_or-set_other (set links p v) q x w 0 far ∙ get_or-set_other links p x v 0 out) apart off

linked_same : (behind before new_behind new_before : List ℕ) (from to : ℕ) (xs : List ℕ) → SameLinks behind new_behind (from ∷ xs) → SameLinks before new_before (xs ++ to ∷ [])
    → Linked behind before from xs to → Linked new_behind new_before from xs to
linked_same behind before new_behind new_before from to [] out off is = (out.0 ∙ is.0, off.0 ∙ is.1)
linked_same behind before new_behind new_before from to (x ∷ xs) out off is = (
  out.0 ∙ is.0,
  off.0 ∙ is.1,
  linked_same behind before new_behind new_before x to xs out.1 off.1 is.2,
)

rewalked : (behind before : List ℕ) (n from to : ℕ) (xs : List ℕ) → length xs ≡ n → Linked behind before from xs to → walk n behind from ≡ xs
rewalked behind before n from to xs long is = ap (λ k. walk k behind from) (sym long) ∙ walked behind before from to xs is

record IsUnchanged (behind before new_behind new_before : List ℕ) (ring : Ring) : Type 0 where
  pub slots_are : slots_of new_behind ring ≡ slots_of behind ring
  pub linked : IsLinked new_behind new_before ring

ring_unchanged : (behind before new_behind new_before : List ℕ) (ring : Ring) → SameLinks behind new_behind (nodes_of behind ring) → SameLinks before new_before (nodes_of behind ring)
    → IsLinked behind before ring → IsUnchanged behind before new_behind new_before ring
ring_unchanged behind before new_behind new_before ring out off is =
    let slots = slots_of behind ring in
    let linked = linked_same behind before new_behind new_before ring.start ring.start slots out (each_both (λ x. link new_before x ≡ link before x) slots (ring.start ∷ []) off.1 (off.0, record {})) is in
    let are = rewalked new_behind new_before ring.count ring.start ring.start slots (walk_length ring.count behind ring.start) linked in
    record { slots_are = are; linked = subst (λ xs. Linked new_behind new_before ring.start xs ring.start) (sym are) linked }

first_value : (start : ℕ) {xs ys : List ℕ} {vs ws : List RingValue} → xs ≡ ys → vs ≡ ws
    → (record { start = start; slots = xs }) ∷ vs ≡ (record { start = start; slots = ys }) ∷ ws
first_value start same rest = cc

first_nodes : (start : ℕ) {xs ys vs ws : List ℕ} → xs ≡ ys → vs ≡ ws → (start ∷ xs) ++ vs ≡ (start ∷ ys) ++ ws
first_nodes start same rest = cc

record AreUnchanged (behind before new_behind new_before : List ℕ) (rings : List Ring) : Type 0 where
  pub values_are : map (ring_of new_behind) rings ≡ map (ring_of behind) rings
  pub nodes_are : nodes new_behind rings ≡ nodes behind rings
  pub linked : AreLinked new_behind new_before rings

rings_unchanged : (behind before new_behind new_before : List ℕ) (rings : List Ring) → SameLinks behind new_behind (nodes behind rings) → SameLinks before new_before (nodes behind rings)
    → AreLinked behind before rings → AreUnchanged behind before new_behind new_before rings
rings_unchanged behind before new_behind new_before [] out off is = record { values_are = refl; nodes_are = refl; linked = record {} }
rings_unchanged behind before new_behind new_before (ring ∷ rings) out off is =
    let own = nodes_of behind ring in
    let others = nodes behind rings in
    let one = ring_unchanged behind before new_behind new_before ring
    (each_front (λ x. link new_behind x ≡ link behind x) own others out) (each_front (λ x. link new_before x ≡ link before x) own others off) is.0 in
    let rest = rings_unchanged behind before new_behind new_before rings
    (each_back (λ x. link new_behind x ≡ link behind x) own others out) (each_back (λ x. link new_before x ≡ link before x) own others off) is.1 in
    record {
      values_are = first_value ring.start one.slots_are rest.values_are;
      nodes_are = ap (λ xs. (ring.start ∷ xs) ++ nodes new_behind rings) one.slots_are ∙ ap (λ xs. own ++ xs) rest.nodes_are;
      linked = (one.linked, rest.linked);
    }

-- ---- numbers of the ring at a place

pub start_in : (P : ℕ → Type 0) (behind : List ℕ) (place : ℕ) (rings : List Ring) (d : Ring) → place < length rings → Each P (nodes behind rings) → P (get_or rings place d).start
start_in P behind place [] d less each = absurd (omega (arith, less))
start_in P behind zero (ring ∷ rings) d less each = each.0
start_in P behind (suc place) (ring ∷ rings) d less each =
    start_in P behind place rings d (omega (arith, less)) (each_back P (nodes_of behind ring) (nodes behind rings) each)

pub last_in : (P : ℕ → Type 0) (behind before : List ℕ) (place : ℕ) (rings : List Ring) (d : Ring) → place < length rings → AreLinked behind before rings → Each P (nodes behind rings)
    → P (link before (get_or rings place d).start)
last_in P behind before place [] d less is each = absurd (omega (arith, less))
last_in P behind before zero (ring ∷ rings) d less is each =
    before_to P behind before ring.start ring.start (slots_of behind ring) is.0 (each_front P (nodes_of behind ring) (nodes behind rings) each)
last_in P behind before (suc place) (ring ∷ rings) d less is each =
    last_in P behind before place rings d (omega (arith, less)) is.1 (each_back P (nodes_of behind ring) (nodes behind rings) each)

pub slots_in : (P : ℕ → Type 0) (behind : List ℕ) (place : ℕ) (rings : List Ring) (d : Ring) → place < length rings → Each P (nodes behind rings) → Each P (nodes_of behind (get_or rings place d))
slots_in P behind place [] d less each = absurd (omega (arith, less))
slots_in P behind zero (ring ∷ rings) d less each = each_front P (nodes_of behind ring) (nodes behind rings) each
slots_in P behind (suc place) (ring ∷ rings) d less each =
    slots_in P behind place rings d (omega (arith, less)) (each_back P (nodes_of behind ring) (nodes behind rings) each)

pub record AreNear (P : ℕ → Type 0) (behind before : List ℕ) (slot : ℕ) : Type 0 where
  pub own : P slot
  pub front : P (link before slot)
  pub back : P (link behind slot)

near_own : (P : ℕ → Type 0) (behind before : List ℕ) (slot : ℕ) (ring : Ring) → IsLinked behind before ring → has_slot slot (slots_of behind ring) ≡ true → Each P (nodes_of behind ring)
    → AreNear P behind before slot
near_own P behind before slot ring is there each =
    let start = ring.start in
    let at = among slot (slots_of behind ring) there in
    let all = subst (λ l. Linked behind before start l start) at.is is in
    let every = subst (λ l. Each P (start ∷ l)) at.is each in
    let back = each_back P (start ∷ at.front) (slot ∷ at.back) every in
    record {
      own = back.0;
      front = before_to P behind before start slot at.front (linked_front behind before start slot start at.front at.back all) (each_front P (start ∷ at.front) (slot ∷ at.back) every);
      back = behind_from P behind before slot start at.back (linked_back behind before start slot start at.front at.back all) (each_both P at.back (start ∷ []) back.1 (every.0, record {}));
    }

pub near_in : (P : ℕ → Type 0) (behind before : List ℕ) (slot place : ℕ) (rings : List Ring) (d : Ring) → place < length rings → AreLinked behind before rings
    → has_slot slot (slots_of behind (get_or rings place d)) ≡ true → Each P (nodes behind rings) → AreNear P behind before slot
near_in P behind before slot place [] d less is there each = absurd (omega (arith, less))
near_in P behind before slot zero (ring ∷ rings) d less is there each = near_own P behind before slot ring is.0 there (each_front P (nodes_of behind ring) (nodes behind rings) each)
near_in P behind before slot (suc place) (ring ∷ rings) d less is there each =
    near_in P behind before slot place rings d (omega (arith, less)) is.1 there (each_back P (nodes_of behind ring) (nodes behind rings) each)

-- ---- a slot comes

pub record IsPushed (behind before new_behind new_before : List ℕ) (slot place : ℕ) (rings : List Ring) : Type 0 where
  pub values_are : map (ring_of new_behind) (with_ring place counted rings) ≡ with_ring place (one_more slot) (map (ring_of behind) rings)
  pub linked : AreLinked new_behind new_before (with_ring place counted rings)
  pub nodes_are : HasOneMore slot (nodes behind rings) (nodes new_behind (with_ring place counted rings))

-- numbers that are linked, each in one ring
pub record AreApart (behind before : List ℕ) (rings : List Ring) : Type 0 where
  pub linked : AreLinked behind before rings
  pub distinct : Distinct (nodes behind rings)
  pub below : Each (λ x. x < length behind) (nodes behind rings)
  pub size : length before ≡ length behind

apart_rest : (behind before : List ℕ) (ring : Ring) (rings : List Ring) → AreApart behind before (ring ∷ rings) → AreApart behind before rings
apart_rest behind before ring rings are = record {
  linked = are.linked.1;
  distinct = distinct_back (nodes_of behind ring) (nodes behind rings) are.distinct;
  below = each_back (λ x. x < length behind) (nodes_of behind ring) (nodes behind rings) are.below;
  size = are.size;
}

pushed_first : (behind before : List ℕ) (slot last : ℕ) (ring : Ring) (rings : List Ring) → AreApart behind before (ring ∷ rings) → slot < length behind
    → Apart slot (nodes behind (ring ∷ rings)) → last ≡ link before ring.start
    → IsPushed behind before (set (set behind last slot) slot ring.start) (set (set before slot last) ring.start slot) slot zero (ring ∷ rings)
pushed_first behind before slot last ring rings are slot_low outside is_last =
    let start = ring.start in
    let slots = slots_of behind ring in
    let own = nodes_of behind ring in
    let others = nodes behind rings in
    let new_behind = set (set behind last slot) slot start in
    let new_before = set (set before slot last) start slot in
    let far = crossing own others are.distinct in
    let last_far : Apart last others = subst (λ n. Apart n others) (sym is_last) (before_to (λ x. Apart x others) behind before start start slots are.linked.0 far) in
    let lows = each_front (λ x. x < length behind) own others are.below in
    let last_low : last < length behind = subst (λ n. n < length behind) (sym is_last) (before_to (λ x. x < length behind) behind before start start slots are.linked.0 lows) in
    let alone = distinct_front own others are.distinct in
    let new = each_front (λ x. x ≢ slot) own others outside in
    let out = each_back (λ x. x ≢ slot) own others outside in
    let is = linked_last behind before last slot start start slots is_last last_low slot_low (omega (arith, slot_low, are.size)) (omega (arith, lows.0, are.size)) alone new (λ same. new.0 (sym same)) alone.0 are.linked.0 in
    let long = length_last slot slots in
    let wide = walk_length ring.count behind start in
    let walked_on = rewalked new_behind new_before (ring.count + 1) start start (slots ++ slot ∷ []) (omega (arith, long, wide)) is in
    let rest = rings_unchanged behind before new_behind new_before rings (same_two behind last slot slot start others last_far out) (same_two before slot last start slot others out far.0) are.linked.1 in
    record {
      values_are = first_value start walked_on rest.values_are;
      linked = (subst (λ xs. Linked new_behind new_before start xs start) (sym walked_on) is, rest.linked);
      nodes_are = record {
        front = own;
        back = others;
        less_is = refl;
        more_is = first_nodes start walked_on rest.nodes_are ∙ ap (λ xs. start ∷ xs) (append_assoc slots (slot ∷ []) others);
      };
    }

pub pushed : (behind before : List ℕ) (slot last place : ℕ) (rings : List Ring) (d : Ring) → place < length rings → AreApart behind before rings → slot < length behind
    → Apart slot (nodes behind rings) → last ≡ link before (get_or rings place d).start
    → IsPushed behind before (set (set behind last slot) slot (get_or rings place d).start) (set (set before slot last) (get_or rings place d).start slot) slot place rings
pushed behind before slot last place [] d less are slot_low outside is_last = absurd (omega (arith, less))
pushed behind before slot last zero (ring ∷ rings) d less are slot_low outside is_last = pushed_first behind before slot last ring rings are slot_low outside is_last
pushed behind before slot last (suc place) (ring ∷ rings) d less are slot_low outside is_last =
    let own = nodes_of behind ring in
    let others = nodes behind rings in
    let start = (get_or rings place d).start in
    let within : place < length rings = omega (arith, less) in
    let near = crossing_back own others are.distinct in
    let start_far = start_in (λ x. Apart x own) behind place rings d within near in
    let last_far = subst (λ n. Apart n own) (sym is_last) (last_in (λ x. Apart x own) behind before place rings d within are.linked.1 near) in
    let slot_far = each_front (λ x. x ≢ slot) own others outside in
    let rest = pushed behind before slot last place rings d within (apart_rest behind before ring rings are) slot_low (each_back (λ x. x ≢ slot) own others outside) is_last in
    let one = ring_unchanged behind before (set (set behind last slot) slot start) (set (set before slot last) start slot) ring
    (same_two behind last slot slot start own last_far slot_far) (same_two before slot last start slot own slot_far start_far) are.linked.0 in
    record {
      values_are = first_value ring.start one.slots_are rest.values_are;
      linked = (one.linked, rest.linked);
      nodes_are =
          subst (HasOneMore slot (own ++ others)) (first_nodes ring.start (sym one.slots_are) refl)
          (behind_others slot own others (nodes (set (set behind last slot) slot start) (with_ring place counted rings)) rest.nodes_are);
    }

-- ---- a slot goes

pub record IsLeft (behind before new_behind new_before : List ℕ) (slot place : ℕ) (rings : List Ring) : Type 0 where
  pub values_are : map (ring_of new_behind) (with_ring place discounted rings) ≡ with_ring place (one_less slot) (map (ring_of behind) rings)
  pub linked : AreLinked new_behind new_before (with_ring place discounted rings)
  pub nodes_are : HasOneMore slot (nodes new_behind (with_ring place discounted rings)) (nodes behind rings)

left_linked : (behind before : List ℕ) (slot p q start : ℕ) (front back : List ℕ) → p ≡ link before slot → q ≡ link behind slot → p < length behind → q < length before
    → Distinct (start ∷ front ++ slot ∷ back) → Linked behind before start (front ++ slot ∷ back) start → Linked (set behind p q) (set before q p) start (front ++ back) start
left_linked behind before slot p q start front back is_p is_q p_low q_low distinct is =
    let off_front = each_front (λ y. y ≢ start) front (slot ∷ back) distinct.0 in
    let off_back = (each_back (λ y. y ≢ start) front (slot ∷ back) distinct.0).1 in
    unlinked behind before p q start slot start front back is_p is_q p_low q_low
    (off_front, distinct_front front (slot ∷ back) distinct.1)
    (each_two (λ y. Apart y (slot ∷ back)) (λ y. y ≢ start) (λ y. Apart y (back ++ start ∷ [])) front
    (λ y off out. each_both (λ x. x ≢ y) back (start ∷ []) off.1 (λ same. out (sym same), record {}))
    (crossing front (slot ∷ back) distinct.1) off_front)
    off_back
    (distinct_last start back (distinct_back front (slot ∷ back) distinct.1).1 off_back)
    (linked_front behind before start slot start front back is)
    (linked_back behind before start slot start front back is)

left_first : (behind before : List ℕ) (slot p q : ℕ) (ring : Ring) (rings : List Ring) → AreApart behind before (ring ∷ rings) → has_slot slot (slots_of behind ring) ≡ true
    → p ≡ link before slot → q ≡ link behind slot → IsLeft behind before (set behind p q) (set before q p) slot zero (ring ∷ rings)
left_first behind before slot p q ring rings are there is_p is_q =
    let start = ring.start in
    let slots = slots_of behind ring in
    let own = nodes_of behind ring in
    let others = nodes behind rings in
    let at = among slot slots there in
    let far = near_own (λ x. Apart x others) behind before slot ring are.linked.0 there (crossing own others are.distinct) in
    let lows = near_own (λ x. x < length behind) behind before slot ring are.linked.0 there (each_front (λ x. x < length behind) own others are.below) in
    let alone = subst (λ l. Distinct (start ∷ l)) at.is (distinct_front own others are.distinct) in
    let is = left_linked behind before slot p q start at.front at.back is_p is_q (omega (arith, is_p, lows.front)) (omega (arith, is_q, lows.back, are.size)) alone
    (subst (λ l. Linked behind before start l start) at.is are.linked.0) in
    let without_is : without slot slots ≡ at.front ++ at.back =
    ap (without slot) at.is ∙ without_among slot at.front at.back (apart_front slot at.front at.back alone.1) (apart_back slot at.front at.back alone.1) in
    let long = ap length at.is ∙ length_among slot at.front at.back in
    let wide = walk_length ring.count behind start in
    let walked_on = rewalked (set behind p q) (set before q p) (ring.count - 1) start start (at.front ++ at.back) (omega (arith, long, wide)) is in
    let rest = rings_unchanged behind before (set behind p q) (set before q p) rings
    (same_set behind p q others (subst (λ n. Apart n others) (sym is_p) far.front)) (same_set before q p others (subst (λ n. Apart n others) (sym is_q) far.back)) are.linked.1 in
    record {
      values_are = first_value start (walked_on ∙ sym without_is) rest.values_are;
      linked = (subst (λ xs. Linked (set behind p q) (set before q p) start xs start) (sym walked_on) is, rest.linked);
      nodes_are = record {
        front = start ∷ at.front;
        back = at.back ++ others;
        less_is = first_nodes start walked_on rest.nodes_are ∙ ap (λ xs. start ∷ xs) (append_assoc at.front at.back others);
        more_is = ap (λ xs. (start ∷ xs) ++ others) at.is ∙ ap (λ xs. start ∷ xs) (append_assoc at.front (slot ∷ at.back) others);
      };
    }

pub left : (behind before : List ℕ) (slot p q place : ℕ) (rings : List Ring) (d : Ring) → place < length rings → AreApart behind before rings
    → has_slot slot (slots_of behind (get_or rings place d)) ≡ true → p ≡ link before slot → q ≡ link behind slot
    → IsLeft behind before (set behind p q) (set before q p) slot place rings
left behind before slot p q place [] d less are there is_p is_q = absurd (omega (arith, less))
left behind before slot p q zero (ring ∷ rings) d less are there is_p is_q = left_first behind before slot p q ring rings are there is_p is_q
left behind before slot p q (suc place) (ring ∷ rings) d less are there is_p is_q =
    let own = nodes_of behind ring in
    let others = nodes behind rings in
    let within : place < length rings = omega (arith, less) in
    let far = near_in (λ x. Apart x own) behind before slot place rings d within are.linked.1 there (crossing_back own others are.distinct) in
    let rest = left behind before slot p q place rings d within (apart_rest behind before ring rings are) there is_p is_q in
    let one = ring_unchanged behind before (set behind p q) (set before q p) ring
    (same_set behind p q own (subst (λ n. Apart n own) (sym is_p) far.front)) (same_set before q p own (subst (λ n. Apart n own) (sym is_q) far.back)) are.linked.0 in
    record {
      values_are = first_value ring.start one.slots_are rest.values_are;
      linked = (one.linked, rest.linked);
      nodes_are =
          subst (λ xs. HasOneMore slot xs (own ++ others)) (first_nodes ring.start (sym one.slots_are) refl)
          (behind_others slot own (nodes (set behind p q) (with_ring place discounted rings)) others rest.nodes_are);
    }

-- ---- the rings by their values

pub value_at : (behind : List ℕ) (rings : List Ring) (place : ℕ) (d : Ring) → place < length rings → ring_at place (map (ring_of behind) rings) ≡ ring_of behind (get_or rings place d)
value_at behind [] place d less = absurd (omega (arith, less))
value_at behind (ring ∷ rings) zero d less = refl
value_at behind (ring ∷ rings) (suc place) d less = value_at behind rings place d (omega (arith, less))

pub some_slot : (slot : ℕ) (slots : List ℕ) → has_slot slot slots ≡ true → 0 < length slots
some_slot slot [] there = absurd (false≢true there)
some_slot slot (x ∷ slots) there = omega arith

outside_nodes : (behind : List ℕ) (rings : List Ring) (room slot : ℕ) → slot < room → StartBehind room rings → IsOutside slot (map (ring_of behind) rings) → Apart slot (nodes behind rings)
outside_nodes behind [] room slot less starts outside = record {}
outside_nodes behind (ring ∷ rings) room slot less starts outside = (
  λ same. absurd (omega (arith, same, less, starts.0)),
  each_both (λ x. x ≢ slot) (slots_of behind ring) (nodes behind rings) outside.0 (outside_nodes behind rings room slot less starts.1 outside.1),
)

nodes_outside : (behind : List ℕ) (rings : List Ring) (slot : ℕ) → Apart slot (nodes behind rings) → IsOutside slot (map (ring_of behind) rings)
nodes_outside behind [] slot apart = record {}
nodes_outside behind (ring ∷ rings) slot apart = (
  each_front (λ x. x ≢ slot) (slots_of behind ring) (nodes behind rings) apart.1,
  nodes_outside behind rings slot (each_back (λ x. x ≢ slot) (slots_of behind ring) (nodes behind rings) apart.1),
)

starts_stay : (becomes : Ring → Ring) → ((ring : Ring) → (becomes ring).start ≡ ring.start) → (room place : ℕ) (rings : List Ring) → StartBehind room rings → StartBehind room (with_ring place becomes rings)
starts_stay becomes same room place [] starts = starts
starts_stay becomes same room zero (ring ∷ rings) starts = (subst (λ n. room ≤ n) (sym (same ring)) starts.0, starts.1)
starts_stay becomes same room (suc place) (ring ∷ rings) starts = (starts.0, starts_stay becomes same room place rings starts.1)

-- a ring in the place of another
pub ring_set : (becomes : Ring → Ring) (rings : List Ring) (place : ℕ) (old new : Ring) → place < length rings → old ≡ get_or rings place old → new ≡ becomes old → set rings place new ≡ with_ring place becomes rings
ring_set becomes [] place old new less is same = absurd (omega (arith, less))
ring_set becomes (ring ∷ rings) zero old new less is same = ap (λ r. r ∷ rings) (same ∙ ap becomes is)
ring_set becomes (ring ∷ rings) (suc place) old new less is same = ap (λ rs. ring ∷ rs) (ring_set becomes rings place old new (omega (arith, less)) is same)

pub record AreRingsOf (behind before : List ℕ) (rings : List Ring) (room : ℕ) (values : List RingValue) : Type 0 where
  pub values_are : map (ring_of behind) rings ≡ values
  pub are : AreRings behind before rings room

-- and the slot is in none of them
pub record AreLeftOf (behind before : List ℕ) (rings : List Ring) (room slot : ℕ) (values : List RingValue) : Type 0 where
  pub of : AreRingsOf behind before rings room values
  pub outside : IsOutside slot values

apart_of : (behind before : List ℕ) (rings : List Ring) (room : ℕ) → AreRings behind before rings room → AreApart behind before rings
apart_of behind before rings room are = record { linked = are.linked; distinct = are.distinct; below = are.below; size = are.size }

rings_more : (behind before : List ℕ) (rings : List Ring) (room slot last place : ℕ) (d : Ring) → AreRings behind before rings room → place < length rings → slot < room
    → IsOutside slot (map (ring_of behind) rings) → last ≡ link before (get_or rings place d).start
    → AreRingsOf (set (set behind last slot) slot (get_or rings place d).start) (set (set before slot last) (get_or rings place d).start slot) (with_ring place counted rings) room
    (with_ring place (one_more slot) (map (ring_of behind) rings))
rings_more behind before rings room slot last place d all within below outside is_last =
    let start = (get_or rings place d).start in
    let low : slot < length behind = omega (arith, below, all.wide) in
    let out = outside_nodes behind rings room slot below all.starts outside in
    let done = pushed behind before slot last place rings d within (apart_of behind before rings room all) low out is_last in
    let more = nodes (set (set behind last slot) slot start) (with_ring place counted rings) in
    let one = length-set (set behind last slot) slot start in
    let two = length-set behind last slot in
    let three = length-set (set before slot last) start slot in
    let four = length-set before slot last in
    record {
      values_are = done.values_are;
      are = record {
        linked = done.linked;
        distinct = distinct_more slot (nodes behind rings) more done.nodes_are all.distinct out;
        below = each_weaker (λ x. x < length behind) (λ x. x < length (set (set behind last slot) slot start)) more (λ x less. omega (arith, less, one, two))
            (each_more (λ x. x < length behind) slot (nodes behind rings) more done.nodes_are all.below low);
        starts = starts_stay counted (λ ring. refl) room place rings all.starts;
        size = omega (arith, one, two, three, four, all.size);
        wide = omega (arith, one, two, all.wide);
      };
    }

rings_less : (behind before : List ℕ) (rings : List Ring) (room slot p q place : ℕ) (d : Ring) → AreRings behind before rings room → place < length rings
    → has_slot slot (slots_of behind (get_or rings place d)) ≡ true → p ≡ link before slot → q ≡ link behind slot
    → AreLeftOf (set behind p q) (set before q p) (with_ring place discounted rings) room slot (with_ring place (one_less slot) (map (ring_of behind) rings))
rings_less behind before rings room slot p q place d all within there is_p is_q =
    let done = left behind before slot p q place rings d within (apart_of behind before rings room all) there is_p is_q in
    let less = nodes (set behind p q) (with_ring place discounted rings) in
    let one = length-set behind p q in
    let two = length-set before q p in
    record {
      of = record {
        values_are = done.values_are;
        are = record {
          linked = done.linked;
          distinct = distinct_fewer slot less (nodes behind rings) done.nodes_are all.distinct;
          below = each_weaker (λ x. x < length behind) (λ x. x < length (set behind p q)) less (λ x low. omega (arith, low, one))
              (each_fewer (λ x. x < length behind) slot less (nodes behind rings) done.nodes_are all.below);
          starts = starts_stay discounted (λ ring. refl) room place rings all.starts;
          size = omega (arith, one, two, all.size);
          wide = omega (arith, one, all.wide);
        };
      };
      outside = subst (IsOutside slot) done.values_are
          (nodes_outside (set behind p q) (with_ring place discounted rings) slot (apart_fewer slot less (nodes behind rings) done.nodes_are all.distinct));
    }

-- ---- the ring at a place

pub record IsPlace (behind before : List ℕ) (rings : List Ring) (place : ℕ) (ring : Ring) (values : List RingValue) : Type 0 where
  pub within : place < length rings
  pub value_is : ring_at place values ≡ ring_of behind ring
  pub start_low : ring.start < length behind
  pub last_low : link before ring.start < length behind
  pub count_is : (other : Ring) → (get_or rings place other).count ≡ length (ring_at place values).slots

pub placed : (behind before : List ℕ) (rings : List Ring) (room place : ℕ) (ring : Ring) (values : List RingValue) → AreRings behind before rings room → map (ring_of behind) rings ≡ values
    → place < length values → ring ≡ get_or rings place ring → IsPlace behind before rings place ring values
placed behind before rings room place ring values all are less is =
    let long = length-map rings (ring_of behind) in
    let within : place < length rings = omega (arith, less, ap length (sym are), long) in
    let value : ring_at place values ≡ ring_of behind ring = ap (ring_at place) (sym are) ∙ value_at behind rings place ring within ∙ ap (ring_of behind) (sym is) in
    record {
      within = within;
      value_is = value;
      start_low = subst (λ (r : Ring). r.start < length behind) (sym is) (start_in (λ x. x < length behind) behind place rings ring within all.below);
      last_low = subst (λ (r : Ring). link before r.start < length behind) (sym is) (last_in (λ x. x < length behind) behind before place rings ring within all.linked all.below);
      count_is = λ other.
          ap (λ (r : Ring). r.count) (get_or_default rings place other ring within ∙ sym is)
          ∙ sym (walk_length ring.count behind ring.start)
          ∙ ap (λ (r : RingValue). length r.slots) (sym value);
    }

-- the place before another of an order, and what is linked behind it
pub record IsReached (behind : List ℕ) (slot place : ℕ) (slots : List ℕ) : Type 0 where
  pub within : slot < length behind
  pub leads : link behind slot ≡ get_or slots place 0

pub reached : (behind before : List ℕ) (rings : List Ring) (room at slot place : ℕ) (values : List RingValue) → AreRings behind before rings room → map (ring_of behind) rings ≡ values
    → at < length values → place < length (ring_at at values).slots → slot ≡ get_or ((ring_at at values).start ∷ (ring_at at values).slots) place 0
    → IsReached behind slot place (ring_at at values).slots
reached behind before rings room at slot place values are same less there is =
    let d : Ring = record { start = 0; count = 0 } in
    let ring = get_or rings at d in
    let long = length-map rings (ring_of behind) in
    let within : at < length rings = omega (arith, less, ap length (sym same), long) in
    let value : ring_at at values ≡ ring_of behind ring = ap (ring_at at) (sym same) ∙ value_at behind rings at d within in
    let wide = walk_length ring.count behind ring.start in
    let short : place < ring.count = omega (arith, there, ap (λ (r : RingValue). length r.slots) value, wide) in
    let slot_is : slot ≡ get_or (nodes_of behind ring) place 0 = is ∙ ap (λ (r : RingValue). get_or (r.start ∷ r.slots) place 0) value in
    let low = each_at (λ x. x < length behind) (nodes_of behind ring) place (slots_in (λ x. x < length behind) behind at rings d within are.below) (omega (arith, short, wide)) in
    record {
      within = subst (λ n. n < length behind) (sym slot_is) low;
      leads = ap (link behind) slot_is ∙ walk_at ring.count behind ring.start place short ∙ ap (λ (r : RingValue). get_or r.slots place 0) (sym value);
    }

-- a slot that an order has
pub record IsThere (behind before : List ℕ) (rings : List Ring) (place slot : ℕ) : Type 0 where
  pub within : place < length rings
  pub there : has_slot slot (slots_of behind (get_or rings place (record { start = 0; count = 0 }))) ≡ true
  pub lows : AreNear (λ x. x < length behind) behind before slot
  pub some : (d : Ring) → 0 < (get_or rings place d).count

pub is_there : (behind before : List ℕ) (rings : List Ring) (room place slot : ℕ) (values : List RingValue) → AreRings behind before rings room → map (ring_of behind) rings ≡ values
    → place < length values → has_slot slot (ring_at place values).slots ≡ true → IsThere behind before rings place slot
is_there behind before rings room place slot values are same less has =
    let d : Ring = record { start = 0; count = 0 } in
    let long = length-map rings (ring_of behind) in
    let within : place < length rings = omega (arith, less, ap length (sym same), long) in
    let there : has_slot slot (slots_of behind (get_or rings place d)) ≡ true =
    ap (λ (r : RingValue). has_slot slot r.slots) (sym (value_at behind rings place d within) ∙ ap (ring_at place) same) ∙ has in
    record {
      within = within;
      there = there;
      lows = near_in (λ x. x < length behind) behind before slot place rings d within are.linked there are.below;
      some = λ other.
          let wide = walk_length (get_or rings place d).count behind (get_or rings place d).start in
          let long = some_slot slot (slots_of behind (get_or rings place d)) there in
          let is = ap (λ (r : Ring). r.count) (get_or_default rings place d other within) in
          omega (arith, wide, long, is);
    }

-- ---- what the calls leave

pub after_push : (behind before : List ℕ) (rings : List Ring) (room slot last place : ℕ) (ring : Ring) (values : List RingValue) (new_behind new_before : List ℕ) (new_rings : List Ring)
    → AreRings behind before rings room → map (ring_of behind) rings ≡ values → place < length values → ring ≡ get_or rings place ring → slot < room → IsOutside slot values
    → last ≡ link before ring.start → new_behind ≡ set (set behind last slot) slot ring.start → new_before ≡ set (set before slot last) ring.start slot → new_rings ≡ with_ring place counted rings
    → AreRingsOf new_behind new_before new_rings room (with_ring place (one_more slot) values)
after_push behind before rings room slot last place ring values new_behind new_before new_rings all are less is below outside is_last is_behind is_before is_rings =
    let at = placed behind before rings room place ring values all are less is in
    let start = (get_or rings place ring).start in
    let start_is : ring.start ≡ start = ap (λ (r : Ring). r.start) is in
    let done = rings_more behind before rings room slot last place ring all at.within below (subst (IsOutside slot) (sym are) outside) (is_last ∙ ap (link before) start_is) in
    let behind_is : set (set behind last slot) slot start ≡ new_behind = ap (set (set behind last slot) slot) (sym start_is) ∙ sym is_behind in
    let before_is : set (set before slot last) start slot ≡ new_before = ap (λ n. set (set before slot last) n slot) (sym start_is) ∙ sym is_before in
    subst (λ vs. AreRingsOf new_behind new_before new_rings room (with_ring place (one_more slot) vs)) are
    (subst (λ rs. AreRingsOf new_behind new_before rs room (with_ring place (one_more slot) (map (ring_of behind) rings))) (sym is_rings)
    (subst (λ l. AreRingsOf new_behind l (with_ring place counted rings) room (with_ring place (one_more slot) (map (ring_of behind) rings))) before_is
    (subst (λ l. AreRingsOf l (set (set before slot last) start slot) (with_ring place counted rings) room (with_ring place (one_more slot) (map (ring_of behind) rings))) behind_is done)))

pub after_depart : (behind before : List ℕ) (rings : List Ring) (room slot p q place : ℕ) (values : List RingValue) (new_behind new_before : List ℕ) (new_rings : List Ring)
    → AreRings behind before rings room → map (ring_of behind) rings ≡ values → place < length values → has_slot slot (ring_at place values).slots ≡ true
    → p ≡ link before slot → q ≡ link behind slot → new_behind ≡ set behind p q → new_before ≡ set before q p → new_rings ≡ with_ring place discounted rings
    → AreLeftOf new_behind new_before new_rings room slot (with_ring place (one_less slot) values)
after_depart behind before rings room slot p q place values new_behind new_before new_rings all are less there is_p is_q is_behind is_before is_rings =
    let at = is_there behind before rings room place slot values all are less there in
    let done = rings_less behind before rings room slot p q place (record { start = 0; count = 0 }) all at.within at.there is_p is_q in
    subst (λ vs. AreLeftOf new_behind new_before new_rings room slot (with_ring place (one_less slot) vs)) are
    (subst (λ rs. AreLeftOf new_behind new_before rs room slot (with_ring place (one_less slot) (map (ring_of behind) rings))) (sym is_rings)
    (subst (λ l. AreLeftOf new_behind l (with_ring place discounted rings) room slot (with_ring place (one_less slot) (map (ring_of behind) rings))) (sym is_before)
    (subst (λ l. AreLeftOf l (set before q p) (with_ring place discounted rings) room slot (with_ring place (one_less slot) (map (ring_of behind) rings))) (sym is_behind) done)))
