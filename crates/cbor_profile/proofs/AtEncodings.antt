-- Pairs kept at the encodings of their keys, and those whose keys rise.
use Rattle.std.proofs.Common.{◌≡◌, ℕ, true, false, cond, List, [], ◌∷◌, ◌++◌, map, refl, sym, ap, subst, ◌∙◌}
use Rattle.std.specs.Prelude.{is_some}
use Rattle.std.specs.List.{AllByRecursion}
use Rattle.std.specs.BTreeMap.{insert_entry}
use Rattle.std.specs.Map.{lookup}
use Rattle.std.specs.declared.vec.Vec.{Vec}
use Rattle.std.specs.declared.cmp.Ordering.{Ordering}
use Rattle.std.specs.Ordering.{nat_cmp, is_eq, is_lt, ordering_reverse}
use Rattle.std.specs.declared.cmp.Ordering.TheVariants.{Less, Equal, Greater}
use Rattle.std.specs.Cmp.Lexicographic.{slice_cmp}
use Rattle.cbor_profile.specs.declared.item.Item.{Item}
use Rattle.cbor_profile.specs.declared.item.PairList.{PairList}
use Rattle.cbor_profile.specs.declared.gathering.Gathered.{Gathered}
use Rattle.cbor_profile.specs.declared.gathering.Gathered.TheVariants.{Rising}
use Rattle.cbor_profile.specs.declared.gathering.Place.{Place}
use Rattle.cbor_profile.specs.declared.gathering.Place.TheVariants.{Last}
use Rattle.cbor_profile.specs.Tree.{Tree, pairs_of}
use Rattle.cbor_profile.specs.Canon.{canon}
use Rattle.cbor_profile.specs.Valid.{RiseFrom}
use Rattle.cbor_profile.specs.ItemTrees.{tree_of, tree_pairs, pair_of}
use Rattle.cbor_profile.specs.Keys.{key_order, has_key, put}
use Rattle.cbor_profile.specs.Gathering.{encoded_pairs, AreEncoded, AllBefore, gathered, IsOpenFor}
use Rattle.cbor_profile.proofs.KeyOrder.{order_flip}
use Rattle.cbor_profile.proofs.Places.{IsGreater, greater_all, greater_none}

-- ---- behind pairs whose keys come before

pub behind_fresh : (k : Tree) (ps : List (Tree × Tree)) → AllBefore k ps → has_key k ps ≡ false
behind_fresh k [] all = refl
behind_fresh k (p ∷ ps) all = ap (λ (o : Ordering). cond (is_eq o) true (has_key k ps)) all.0 ∙ behind_fresh k ps all.1

pub behind_put : (k v : Tree) (ps : List (Tree × Tree)) → AllBefore k ps → put k v ps ≡ ps ++ (k, v) ∷ []
behind_put k v [] all = refl
behind_put k v (p ∷ ps) all =
    ap (λ (o : Ordering). cond (is_lt o) (p ∷ put k v ps) ((k, v) ∷ p ∷ ps)) all.0 ∙ ap (λ (l : List (Tree × Tree)). p ∷ l) (behind_put k v ps all.1)

pub behind_pushed : (pairs : Gathered) (list : PairList) (place : Place) (k v : Tree) (new : List (Tree × Tree)) → pairs ≡ Rising list → place ≡ Last → IsOpenFor pairs k place → new ≡ tree_pairs list ++ (k, v) ∷ [] → new ≡ put k v (gathered pairs)
behind_pushed pairs list place k v new is last opens pushed =
    let before : AllBefore k (tree_pairs list) = subst (λ (p : Place). IsOpenFor (Rising list) k p) last (subst (λ (g : Gathered). IsOpenFor g k place) is opens) in
    pushed ∙ sym (behind_put k v (tree_pairs list) before) ∙ ap (λ (g : Gathered). put k v (gathered g)) (sym is)

pub behind_new : (pairs : Gathered) (list : PairList) (k : Tree) → pairs ≡ Rising list → AllBefore k (tree_pairs list) → has_key k (gathered pairs) ≡ false
behind_new pairs list k is all = subst (λ (g : Gathered). has_key k (gathered g) ≡ false) (sym is) (behind_fresh k (tree_pairs list) all)

-- ---- in front of pairs whose keys come after

drop_front : (last : List ℕ) (k v : Tree) (ps qs : List (Tree × Tree)) → RiseFrom last (pairs_of (ps ++ (k, v) ∷ qs)) → RiseFrom (canon k) (pairs_of qs)
drop_front last k v [] qs rise = rise.1
drop_front last k v (p ∷ ps) qs rise = drop_front (canon p.0) k v ps qs rise.1

after_greater : (k : Tree) (qs : List (Tree × Tree)) → RiseFrom (canon k) (pairs_of qs) → AllByRecursion (IsGreater k) qs
after_greater k [] rise = tt
after_greater k (q ∷ qs) rise = (order_flip k q.0 ∙ ap ordering_reverse rise.0, greater_all q.0 qs k rise.1 rise.0)

greater_put : (k v : Tree) (qs : List (Tree × Tree)) → AllByRecursion (IsGreater k) qs → put k v qs ≡ (k, v) ∷ qs
greater_put k v [] all = refl
greater_put k v (q ∷ qs) all = ap (λ (o : Ordering). cond (is_lt o) (q ∷ put k v qs) ((k, v) ∷ q ∷ qs)) all.0

-- the pairs behind the last of some whose keys rise with theirs
pub front_fresh : (k v : Tree) (ps qs : List (Tree × Tree)) → RiseFrom [] (pairs_of (ps ++ (k, v) ∷ qs)) → has_key k qs ≡ false
front_fresh k v ps qs rise = greater_none qs k (after_greater k qs (drop_front [] k v ps qs rise))

pub front_put : (k v : Tree) (ps qs : List (Tree × Tree)) → RiseFrom [] (pairs_of (ps ++ (k, v) ∷ qs)) → put k v qs ≡ (k, v) ∷ qs
front_put k v ps qs rise = greater_put k v qs (after_greater k qs (drop_front [] k v ps qs rise))

-- ---- at encodings

-- how an encoding compares with that of a pair
encoding_order : (q e : List ℕ) (k p : Tree) (o : Ordering) → q ≡ canon k → e ≡ canon p → key_order p k ≡ o → slice_cmp nat_cmp q e ≡ ordering_reverse o
encoding_order q e k p o is at order = ap (λ (l : List ℕ). slice_cmp nat_cmp l e) is ∙ ap (slice_cmp nat_cmp (canon k)) at ∙ order_flip p k ∙ ap ordering_reverse order

abbrev Entry : Type 0 → Type 0
Entry Z = Vec ℕ Z × (Item × Item)

module _ {Z : Type 0} where
  abbrev pub vec_order : Vec ℕ Z → Vec ℕ Z → Ordering
  vec_order x y = slice_cmp nat_cmp x.items y.items

  abbrev inserted : List (Entry Z) → Vec ℕ Z → Item → Item → List (Entry Z)
  inserted es encoding key value = insert_entry vec_order es encoding (key, value)

  insert_step : (o : Ordering) (e : Entry Z) (es : List (Entry Z)) (encoding : Vec ℕ Z) (key value : Item) → key_order (tree_of e.1.0) (tree_of key) ≡ o → vec_order encoding e.0 ≡ ordering_reverse o
      → has_key (tree_of key) (encoded_pairs (e ∷ es)) ≡ false
      → (has_key (tree_of key) (encoded_pairs es) ≡ false → encoded_pairs (inserted es encoding key value) ≡ put (tree_of key) (tree_of value) (encoded_pairs es))
      → encoded_pairs (inserted (e ∷ es) encoding key value) ≡ put (tree_of key) (tree_of value) (encoded_pairs (e ∷ es))
  insert_step Less e es encoding key value order compared fresh more = rw (order, compared) (ap (λ (l : List (Tree × Tree)). pair_of e.1 ∷ l) (more (rw order at fresh)))
  insert_step Equal e es encoding key value order compared fresh more = let no : true ≡ false = rw order at fresh in absurd (cc)
  insert_step Greater e es encoding key value order compared fresh more = rw (order, compared) refl

  pub insert_put : (es : List (Entry Z)) (encoding : Vec ℕ Z) (key value : Item) → AreEncoded es → encoding.items ≡ canon (tree_of key) → has_key (tree_of key) (encoded_pairs es) ≡ false
      → encoded_pairs (inserted es encoding key value) ≡ put (tree_of key) (tree_of value) (encoded_pairs es)
  insert_put [] encoding key value all is fresh = refl
  insert_put (e ∷ es) encoding key value all is fresh =
      insert_step (key_order (tree_of e.1.0) (tree_of key)) e es encoding key value refl (encoding_order encoding.items e.0.items (tree_of key) (tree_of e.1.0) _ is all.0 refl) fresh
      (insert_put es encoding key value all.1 is)

  encoded_step : (o : Ordering) (e : Entry Z) (es : List (Entry Z)) (encoding : Vec ℕ Z) (key value : Item) → key_order (tree_of e.1.0) (tree_of key) ≡ o → vec_order encoding e.0 ≡ ordering_reverse o
      → has_key (tree_of key) (encoded_pairs (e ∷ es)) ≡ false → AreEncoded (e ∷ es) → encoding.items ≡ canon (tree_of key)
      → (has_key (tree_of key) (encoded_pairs es) ≡ false → AreEncoded (inserted es encoding key value))
      → AreEncoded (inserted (e ∷ es) encoding key value)
  encoded_step Less e es encoding key value order compared fresh all is more = rw compared (all.0, more (rw order at fresh))
  encoded_step Equal e es encoding key value order compared fresh all is more = let no : true ≡ false = rw order at fresh in absurd (cc)
  encoded_step Greater e es encoding key value order compared fresh all is more = rw compared (is, all)

  pub insert_encoded : (es : List (Entry Z)) (encoding : Vec ℕ Z) (key value : Item) → AreEncoded es → encoding.items ≡ canon (tree_of key) → has_key (tree_of key) (encoded_pairs es) ≡ false
      → AreEncoded (inserted es encoding key value)
  insert_encoded [] encoding key value all is fresh = (is, tt)
  insert_encoded (e ∷ es) encoding key value all is fresh =
      encoded_step (key_order (tree_of e.1.0) (tree_of key)) e es encoding key value refl (encoding_order encoding.items e.0.items (tree_of key) (tree_of e.1.0) _ is all.0 refl) fresh all is
      (insert_encoded es encoding key value all.1 is)

  found_step : (o : Ordering) (e : Entry Z) (es : List (Entry Z)) (q : List ℕ) (k : Tree) → key_order (tree_of e.1.0) k ≡ o → slice_cmp nat_cmp q e.0.items ≡ ordering_reverse o
      → is_some (lookup (λ x. is_eq (slice_cmp nat_cmp q x.items)) es) ≡ has_key k (encoded_pairs es)
      → is_some (lookup (λ x. is_eq (slice_cmp nat_cmp q x.items)) (e ∷ es)) ≡ has_key k (encoded_pairs (e ∷ es))
  found_step Less e es q k order compared more = rw (order, compared) more
  found_step Equal e es q k order compared more = rw (order, compared) refl
  found_step Greater e es q k order compared more = rw (order, compared) more

  -- an encoding is found where a pair has the key
  pub found_is : (es : List (Entry Z)) (q : List ℕ) (k : Tree) → AreEncoded es → q ≡ canon k → is_some (lookup (λ x. is_eq (slice_cmp nat_cmp q x.items)) es) ≡ has_key k (encoded_pairs es)
  found_is [] q k all is = refl
  found_is (e ∷ es) q k all is =
      found_step (key_order (tree_of e.1.0) k) e es q k refl (encoding_order q e.0.items k (tree_of e.1.0) _ is all.0 refl) (found_is es q k all.1 is)

-- ---- from the last pair to the first

map_split : (xs : List (Item × Item)) (x : Item × Item) (qs : List (Tree × Tree)) → map pair_of (xs ++ x ∷ []) ++ qs ≡ map pair_of xs ++ pair_of x ∷ qs
map_split [] x qs = refl
map_split (y ∷ ys) x qs = ap (λ (l : List (Tree × Tree)). pair_of y ∷ l) (map_split ys x qs)

module _ (old new : List (Item × Item)) (pair : Item × Item) (qs all : List (Tree × Tree)) (last : old ≡ new ++ pair ∷ []) (whole : map pair_of old ++ qs ≡ all) (rise : RiseFrom [] (pairs_of all)) where
  split : map pair_of old ++ qs ≡ map pair_of new ++ pair_of pair ∷ qs
  split = ap (λ (l : List (Item × Item)). map pair_of l ++ qs) last ∙ map_split new pair qs

  rises : RiseFrom [] (pairs_of (map pair_of new ++ pair_of pair ∷ qs))
  rises = subst (λ (l : List (Tree × Tree)). RiseFrom [] (pairs_of l)) (sym whole ∙ split) rise

  pub taken_fresh : has_key (tree_of pair.0) qs ≡ false
  taken_fresh = front_fresh (tree_of pair.0) (tree_of pair.1) (map pair_of new) qs rises

  pub taken_whole : (more : List (Tree × Tree)) → more ≡ put (tree_of pair.0) (tree_of pair.1) qs → map pair_of new ++ more ≡ all
  taken_whole more is = ap (λ (l : List (Tree × Tree)). map pair_of new ++ l) (is ∙ front_put (tree_of pair.0) (tree_of pair.1) (map pair_of new) qs rises) ∙ sym split ∙ whole
