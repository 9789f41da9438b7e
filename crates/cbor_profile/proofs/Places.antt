-- Where a key stands among pairs whose keys rise.
use Rattle.std.proofs.Common.{◌≡◌, ℕ, zero, suc, ◌+◌, ◌-◌, ◌<◌, ◌≤◌, Bool, true, false, cond, List, [], ◌∷◌, length, get_or, take, map, refl, sym, ap, subst, ◌∙◌, arith}
use Rattle.std.specs.List.{AllByRecursion}
use Rattle.std.proofs.lemmas.List.{get_or-map}
use Rattle.std.specs.Ordering.{is_eq, ordering_reverse}
use Rattle.std.specs.declared.cmp.Ordering.{Ordering}
use Rattle.std.specs.declared.cmp.Ordering.TheVariants.{Less, Equal, Greater}
use Rattle.cbor_profile.specs.declared.item.Item.{Item}
use Rattle.cbor_profile.specs.Tree.{Tree, pairs_of}
use Rattle.cbor_profile.specs.Canon.{canon}
use Rattle.cbor_profile.specs.Valid.{IsSound, RiseFrom, KeysRise}
use Rattle.cbor_profile.specs.ItemTrees.{tree_of, pair_of}
use Rattle.cbor_profile.specs.Keys.{key_order, has_key}
use Rattle.cbor_profile.proofs.KeyOrder.{order_then, order_flip}

abbrev pub KeySound : Tree × Tree → Type 0
KeySound p = IsSound p.0

abbrev pub IsLess : Tree → Tree × Tree → Type 0
IsLess k p = key_order p.0 k ≡ Less

abbrev pub IsGreater : Tree → Tree × Tree → Type 0
IsGreater k p = key_order p.0 k ≡ Greater

-- ---- one pair among them

pub view_at : (pairs : List (Item × Item)) (i : ℕ) (x : Item × Item) → i < length pairs → x ≡ get_or pairs i x → pair_of x ≡ get_or (map pair_of pairs) i (pair_of x)
view_at pairs i x lt is = ap pair_of is ∙ sym (get_or-map pair_of pairs i x (pair_of x) lt)

pub length_value : (pairs : List (Item × Item)) → length (map pair_of pairs) ≡ length pairs
length_value [] = refl
length_value (x ∷ xs) = ap suc (length_value xs)

pub sound_at : (ps : List (Tree × Tree)) (i : ℕ) (p : Tree × Tree) → AllByRecursion KeySound ps → i < length ps → p ≡ get_or ps i p → IsSound p.0
sound_at [] i p all lt is = absurd (omega arith)
sound_at (q ∷ qs) zero p all lt is = subst KeySound (sym is) all.0
sound_at (q ∷ qs) (suc i) p all lt is = sound_at qs i p all.1 (omega arith) is

rise_at : (a : Tree) (ps : List (Tree × Tree)) (i : ℕ) (p : Tree × Tree) → RiseFrom (canon a) (pairs_of ps) → i < length ps → p ≡ get_or ps i p → key_order a p.0 ≡ Less
rise_at a [] i p rise lt is = absurd (omega arith)
rise_at a (q ∷ qs) zero p rise lt is = subst (λ (z : Tree × Tree). key_order a z.0 ≡ Less) (sym is) rise.0
rise_at a (q ∷ qs) (suc i) p rise lt is = order_then a q.0 p.0 rise.0 (rise_at q.0 qs i p rise.1 (omega arith) is)

less_take : (last : List ℕ) (ps : List (Tree × Tree)) (k : Tree) (i : ℕ) (p : Tree × Tree) → RiseFrom last (pairs_of ps) → i < length ps → p ≡ get_or ps i p → IsLess k p → AllByRecursion (IsLess k) (take (suc i) ps)
less_take last [] k i p rise lt is less = absurd (omega arith)
less_take last (q ∷ qs) k zero p rise lt is less = (subst (IsLess k) is less, tt)
less_take last (q ∷ qs) k (suc i) p rise lt is less =
    (order_then q.0 p.0 k (rise_at q.0 qs i p rise.1 (omega arith) is) less, less_take (canon q.0) qs k i p rise.1 (omega arith) is less)

-- what is less, so are those before it
pub less_before : (ps : List (Tree × Tree)) (k : Tree) (i : ℕ) (p : Tree × Tree) → RiseFrom [] (pairs_of ps) → i < length ps → p ≡ get_or ps i p → IsLess k p → AllByRecursion (IsLess k) (take (i + 1) ps)
less_before ps k i p rise lt is less =
    let same : suc i ≡ i + 1 = omega arith in subst (λ (n : ℕ). AllByRecursion (IsLess k) (take n ps)) same (less_take [] ps k i p rise lt is less)

flip_less : (a b : Tree) → key_order a b ≡ Greater → key_order b a ≡ Less
flip_less a b is = order_flip a b ∙ ap ordering_reverse is

flip_greater : (a b : Tree) → key_order a b ≡ Less → key_order b a ≡ Greater
flip_greater a b is = order_flip a b ∙ ap ordering_reverse is

pub greater_all : (a : Tree) (ps : List (Tree × Tree)) (k : Tree) → RiseFrom (canon a) (pairs_of ps) → key_order k a ≡ Less → AllByRecursion (IsGreater k) ps
greater_all a [] k rise less = tt
greater_all a (q ∷ qs) k rise less = let next = order_then k a q.0 less rise.0 in (flip_greater k q.0 next, greater_all q.0 qs k rise.1 next)

pub or_true : (b c : Bool) → c ≡ true → cond b true c ≡ true
or_true true c e = refl
or_true false c e = e

pub has_at : (ps : List (Tree × Tree)) (k : Tree) (i : ℕ) (p : Tree × Tree) → i < length ps → p ≡ get_or ps i p → key_order p.0 k ≡ Equal → has_key k ps ≡ true
has_at [] k i p lt is same = absurd (omega arith)
has_at (q ∷ qs) k zero p lt is same =
    let here : key_order q.0 k ≡ Equal = subst (λ (z : Tree × Tree). key_order z.0 k ≡ Equal) is same in ap (λ (o : Ordering). cond (is_eq o) true (has_key k qs)) here
has_at (q ∷ qs) k (suc i) p lt is same = or_true (is_eq (key_order q.0 k)) (has_key k qs) (has_at qs k i p (omega arith) is same)

-- ---- those that are greater

unequal_has : (k : Tree) (p : Tree × Tree) (ps : List (Tree × Tree)) (o : Ordering) → key_order p.0 k ≡ o → is_eq o ≡ false → has_key k ps ≡ false → has_key k (p ∷ ps) ≡ false
unequal_has k p ps o is other none = ap (λ (r : Ordering). cond (is_eq r) true (has_key k ps)) is ∙ rw other none

pub greater_none : (ps : List (Tree × Tree)) (k : Tree) → AllByRecursion (IsGreater k) ps → has_key k ps ≡ false
greater_none [] k all = refl
greater_none (p ∷ ps) k all = unequal_has k p ps Greater all.0 refl (greater_none ps k all.1)

-- ---- the same of the items

within_value : (pairs : List (Item × Item)) (i : ℕ) → i < length pairs → i < length (map pair_of pairs)
within_value pairs i lt = let same = length_value pairs in omega arith

pub last_sound : (pairs : List (Item × Item)) (x : Item × Item) → AllByRecursion (λ p. IsSound p.0) (map pair_of pairs) → 0 < length pairs → x ≡ get_or pairs (length pairs - 1) x → IsSound (tree_of x.0)
last_sound pairs x all some is =
    let lt : length pairs - 1 < length pairs = omega arith in
    sound_at (map pair_of pairs) (length pairs - 1) (pair_of x) all (within_value pairs _ lt) (view_at pairs _ x lt is)

take_whole : (ps : List (Tree × Tree)) (k : Tree) (n : ℕ) → length ps ≤ n → AllByRecursion (IsLess k) (take n ps) → AllByRecursion (IsLess k) ps
take_whole [] k n le all = tt
take_whole (p ∷ ps) k zero le all = absurd (omega arith)
take_whole (p ∷ ps) k (suc n) le all = (all.0, take_whole ps k n (omega arith) all.1)

module _ (pairs : List (Item × Item)) (k : Tree) (x : Item × Item) (some : 0 < length pairs) (is : x ≡ get_or pairs (length pairs - 1) x) where
  pub last_less : KeysRise (pairs_of (map pair_of pairs)) → key_order (tree_of x.0) k ≡ Less → AllByRecursion (λ p. key_order p.0 k ≡ Less) (map pair_of pairs)
  last_less rise less =
      let lt : length pairs - 1 < length pairs = omega arith in
      let before = less_before (map pair_of pairs) k (length pairs - 1) (pair_of x) rise (within_value pairs _ lt) (view_at pairs _ x lt is) less in
      take_whole (map pair_of pairs) k (length pairs - 1 + 1) (omega (arith, length_value pairs)) before

  pub last_equal : key_order (tree_of x.0) k ≡ Equal → has_key k (map pair_of pairs) ≡ true
  last_equal same = let lt : length pairs - 1 < length pairs = omega arith in has_at (map pair_of pairs) k (length pairs - 1) (pair_of x) (within_value pairs _ lt) (view_at pairs _ x lt is) same
