-- Slots that are linked, and what a slot that comes or goes makes of the links.
use Rattle.std.proofs.Common.{◌≡◌, ◌≢◌, ℕ, zero, suc, ◌<◌, List, [], ◌∷◌, ◌++◌, length, get_or, set, refl, sym, ap, subst, ◌∙◌, arith}
use Rattle.std.proofs.lemmas.List.{get_or-set_other, length-set}
use Rattle.std.proofs.lemmas.Grind.{get_or-set_at}
use Rattle.coap_observe.specs.Links.{link, walk, Linked, Each, Apart, Distinct}

-- ---- the walk

pub walked : (behind before : List ℕ) (from to : ℕ) (xs : List ℕ) → Linked behind before from xs to → walk (length xs) behind from ≡ xs
walked behind before from to [] is = refl
walked behind before from to (x ∷ xs) is =
    ap (λ y. y ∷ walk (length xs) behind y) is.0
    ∙ ap (λ ys. x ∷ ys) (walked behind before x to xs is.2)

pub walk_length : (n : ℕ) (links : List ℕ) (from : ℕ) → length (walk n links from) ≡ n
walk_length zero links from = refl
walk_length (suc n) links from = let rest = walk_length n links (link links from) in omega (arith, rest)

pub walk_at : (n : ℕ) (links : List ℕ) (from place : ℕ) → place < n → link links (get_or (from ∷ walk n links from) place 0) ≡ get_or (walk n links from) place 0
walk_at zero links from place less = absurd (omega (arith, less))
walk_at (suc n) links from zero less = refl
walk_at (suc n) links from (suc place) less = walk_at n links (link links from) place (omega (arith, less))

-- ---- all of a list

pub each_at : (P : ℕ → Type 0) (xs : List ℕ) (i : ℕ) → Each P xs → i < length xs → P (get_or xs i 0)
each_at P [] i each less = absurd (omega (arith, less))
each_at P (x ∷ xs) zero each less = each.0
each_at P (x ∷ xs) (suc i) each less = each_at P xs i each.1 (omega (arith, less))

pub each_front : (P : ℕ → Type 0) (xs ys : List ℕ) → Each P (xs ++ ys) → Each P xs
each_front P [] ys each = record {}
each_front P (x ∷ xs) ys each = (each.0, each_front P xs ys each.1)

pub each_back : (P : ℕ → Type 0) (xs ys : List ℕ) → Each P (xs ++ ys) → Each P ys
each_back P [] ys each = each
each_back P (x ∷ xs) ys each = each_back P xs ys each.1

pub each_both : (P : ℕ → Type 0) (xs ys : List ℕ) → Each P xs → Each P ys → Each P (xs ++ ys)
each_both P [] ys front back = back
each_both P (x ∷ xs) ys front back = (front.0, each_both P xs ys front.1 back)

pub each_two : (P Q R : ℕ → Type 0) (xs : List ℕ) → ((x : ℕ) → P x → Q x → R x) → Each P xs → Each Q xs → Each R xs
each_two P Q R [] both one other = record {}
each_two P Q R (x ∷ xs) both one other = (both x one.0 other.0, each_two P Q R xs both one.1 other.1)

pub each_weaker : (P Q : ℕ → Type 0) (xs : List ℕ) → ((x : ℕ) → P x → Q x) → Each P xs → Each Q xs
each_weaker P Q xs weaker each = each_two P P Q xs (λ x p q. weaker x p) each each

-- ---- neighbours

-- the one before is one of these
pub before_to : (P : ℕ → Type 0) (behind before : List ℕ) (from to : ℕ) (xs : List ℕ) → Linked behind before from xs to → Each P (from ∷ xs) → P (link before to)
before_to P behind before from to [] is each = subst P (sym is.1) each.0
before_to P behind before from to (x ∷ xs) is each = before_to P behind before x to xs is.2 each.1

-- the one behind is one of these
pub behind_from : (P : ℕ → Type 0) (behind before : List ℕ) (from to : ℕ) (xs : List ℕ) → Linked behind before from xs to → Each P (xs ++ to ∷ []) → P (link behind from)
behind_from P behind before from to [] is each = subst P (sym is.0) each.0
behind_from P behind before from to (x ∷ xs) is each = subst P (sym is.0) each.0

pub linked_front : (behind before : List ℕ) (from slot to : ℕ) (ys zs : List ℕ) → Linked behind before from (ys ++ slot ∷ zs) to → Linked behind before from ys slot
linked_front behind before from slot to [] zs is = (is.0, is.1)
linked_front behind before from slot to (y ∷ ys) zs is = (is.0, is.1, linked_front behind before y slot to ys zs is.2)

pub linked_back : (behind before : List ℕ) (from slot to : ℕ) (ys zs : List ℕ) → Linked behind before from (ys ++ slot ∷ zs) to → Linked behind before slot zs to
linked_back behind before from slot to [] zs is = is.2
linked_back behind before from slot to (y ∷ ys) zs is = linked_back behind before y slot to ys zs is.2

-- ---- a slot goes

-- links of others stay
linked_still : (behind before : List ℕ) (p q v w from to : ℕ) (xs : List ℕ) → Apart p (from ∷ xs) → Apart q (xs ++ to ∷ []) → Linked behind before from xs to
    → Linked (set behind p v) (set before q w) from xs to
linked_still behind before p q v w from to [] out off is = (get_or-set_other behind p from v 0 out.0 ∙ is.0, get_or-set_other before q to w 0 off.0 ∙ is.1)
linked_still behind before p q v w from to (x ∷ xs) out off is = (
  get_or-set_other behind p from v 0 out.0 ∙ is.0,
  get_or-set_other before q x w 0 off.0 ∙ is.1,
  linked_still behind before p q v w x to xs out.1 off.1 is.2,
)

unlinked_first : (behind before : List ℕ) (p q from slot to : ℕ) (zs : List ℕ) → p ≡ link before slot → q ≡ link behind slot → p < length behind → q < length before
    → Apart from zs → Distinct (zs ++ to ∷ []) → Linked behind before from [] slot → Linked behind before slot zs to
    → Linked (set behind p q) (set before q p) from zs to
unlinked_first behind before p q from slot to [] is_p is_q p_less q_less apart distinct front back = (
  get_or-set_at behind p from q 0 (sym front.1 ∙ sym is_p) p_less ∙ (is_q ∙ back.0),
  get_or-set_at before q to p 0 (sym back.0 ∙ sym is_q) q_less ∙ (is_p ∙ front.1),
)
unlinked_first behind before p q from slot to (z ∷ zs) is_p is_q p_less q_less apart distinct front back = (
  get_or-set_at behind p from q 0 (sym front.1 ∙ sym is_p) p_less ∙ (is_q ∙ back.0),
  get_or-set_at before q z p 0 (sym back.0 ∙ sym is_q) q_less ∙ (is_p ∙ front.1),
  linked_still
      behind
      before
      p
      q
      q
      p
      z
      to
      zs
      (subst (λ n. Apart n (z ∷ zs)) (sym front.1 ∙ sym is_p) apart)
      (subst (λ n. Apart n (zs ++ to ∷ [])) (sym back.0 ∙ sym is_q) distinct.0)
      back.2,
)

-- where those around a slot are linked with one another, the others are linked
pub unlinked : (behind before : List ℕ) (p q from slot to : ℕ) (ys zs : List ℕ) → p ≡ link before slot → q ≡ link behind slot → p < length behind → q < length before
    → Distinct (from ∷ ys) → Each (λ y. Apart y (zs ++ to ∷ [])) ys → Apart from zs → Distinct (zs ++ to ∷ [])
    → Linked behind before from ys slot → Linked behind before slot zs to
    → Linked (set behind p q) (set before q p) from (ys ++ zs) to
unlinked behind before p q from slot to [] zs is_p is_q p_less q_less distinct crossing apart rest front back =
    unlinked_first behind before p q from slot to zs is_p is_q p_less q_less apart rest front back
unlinked behind before p q from slot to (y ∷ ys) zs is_p is_q p_less q_less distinct crossing apart rest front back =
    let off = before_to (λ x. x ≢ from) behind before y slot ys front.2 distinct.0 in
    let out = behind_from (λ x. x ≢ y) behind before slot to zs back crossing.0 in (
      get_or-set_other behind p from q 0 (λ same. off (sym is_p ∙ sym same)) ∙ front.0,
      get_or-set_other before q y p 0 (λ same. out (sym is_q ∙ sym same)) ∙ front.1,
      unlinked
          behind
          before
          p
          q
          y
          slot
          to
          ys
          zs
          is_p
          is_q
          p_less
          q_less
          distinct.1
          crossing.1
          (each_front (λ x. x ≢ y) zs (to ∷ []) crossing.0)
          rest
          front.2
          back,
    )

-- ---- a slot comes

-- a slot that is linked behind the last one is the last
pub linked_last : (behind before : List ℕ) (last slot from to : ℕ) (xs : List ℕ) → last ≡ link before to → last < length behind → slot < length behind → slot < length before
    → to < length before → Distinct (from ∷ xs) → Apart slot (from ∷ xs) → slot ≢ to → Apart to xs → Linked behind before from xs to
    → Linked (set (set behind last slot) slot to) (set (set before slot last) to slot) from (xs ++ slot ∷ []) to
linked_last behind before last slot from to [] is_last last_less behind_less before_less to_less distinct new off apart is =
    let long : length (set behind last slot) ≡ length behind = length-set behind last slot in
    let wide : length (set before slot last) ≡ length before = length-set before slot last in (
      get_or-set_other (set behind last slot) slot from to 0 new.0 ∙ get_or-set_at behind last from slot 0 (sym is.1 ∙ sym is_last) last_less,
      get_or-set_other (set before slot last) to slot slot 0 off ∙ get_or-set_at before slot slot last 0 refl before_less ∙ (is_last ∙ is.1),
      (
        get_or-set_at (set behind last slot) slot slot to 0 refl (omega (arith, long, behind_less)),
        get_or-set_at (set before slot last) to to slot 0 refl (omega (arith, wide, to_less)),
      ),
    )
linked_last behind before last slot from to (x ∷ xs) is_last last_less behind_less before_less to_less distinct new off apart is =
    let around = before_to (λ y. y ≢ from) behind before x to xs is.2 distinct.0 in (
      get_or-set_other (set behind last slot) slot from to 0 new.0 ∙ get_or-set_other behind last from slot 0 (λ same. around (sym is_last ∙ sym same)) ∙ is.0,
      get_or-set_other (set before slot last) to x slot 0 apart.0 ∙ get_or-set_other before slot x last 0 new.1.0 ∙ is.1,
      linked_last behind before last slot x to xs is_last last_less behind_less before_less to_less distinct.1 new.1 off apart.1 is.2,
    )
