-- What is within some levels, by its parts.
use Rattle.std.proofs.Common.{◌≡◌, ℕ, zero, suc, ◌+◌, ◌-◌, ◌^◌, ◌<◌, ◌≤◌, List, [], ◌∷◌, length, get_or, drop, sym, subst, arith}
use Rattle.cbor_profile.specs.declared.item.Item.{Item}
use Rattle.cbor_profile.specs.Tree.{Tree, array, mapping}
use Rattle.cbor_profile.specs.Valid.{IsBefore, items_depth}
use Rattle.cbor_profile.specs.Canon.{canon}
use Rattle.cbor_profile.specs.ItemTrees.{tree_of}
use Rattle.cbor_profile.specs.Within.{IsWithin, AreWithin, ArePairsWithin}
use Rattle.cbor_profile.proofs.ItemTrees.{items_value, pairs_value, dropped, count_is, pair_count_is}

pub array_within : (levels : ℕ) (t : Tree) (xs : List Item) → t ≡ array (items_value xs) → 0 < levels → length xs < 2 ^ 64 → AreWithin (levels - 1) (items_value xs) → IsWithin levels t
array_within levels t xs is lt short h =
    let n = count_is xs in
    let d : items_depth (items_value xs) ≤ levels - 1 = h.nests in
    subst (IsWithin levels) (sym is) (record { sound = (omega arith, h.sound); nests = omega arith })

pub within_array : (levels : ℕ) (t : Tree) (xs : List Item) → t ≡ array (items_value xs) → IsWithin levels t → AreWithin (levels - 1) (items_value xs)
within_array levels t xs is h =
    let g : IsWithin levels (array (items_value xs)) = subst (IsWithin levels) is h in
    let d : suc (items_depth (items_value xs)) ≤ levels = g.nests in
    record { sound = g.sound.1; nests = omega arith }

pub map_within : (levels : ℕ) (t : Tree) (xs : List (Item × Item)) → t ≡ mapping (pairs_value xs) → 0 < levels → length xs < 2 ^ 64 → ArePairsWithin (levels - 1) [] (pairs_value xs) → IsWithin levels t
map_within levels t xs is lt short h =
    let n = pair_count_is xs in
    let d = h.nests in
    subst (IsWithin levels) (sym is) (record { sound = (omega arith, h.sound, h.rise); nests = omega arith })

pub within_map : (levels : ℕ) (t : Tree) (xs : List (Item × Item)) → t ≡ mapping (pairs_value xs) → IsWithin levels t → ArePairsWithin (levels - 1) [] (pairs_value xs)
within_map levels t xs is h =
    let g : IsWithin levels (mapping (pairs_value xs)) = subst (IsWithin levels) is h in
    let d = g.nests in
    record { sound = g.sound.1; rise = g.sound.2; nests = omega arith }

pub within_at : (levels : ℕ) (xs : List Item) (i : ℕ) (x : Item) → AreWithin levels (items_value xs) → i < length xs → x ≡ get_or xs i x → IsWithin levels (tree_of x)
within_at levels [] i x h lt is = absurd (omega arith)
within_at levels (y ∷ ys) zero x h lt is =
    let d = h.nests in
    subst (λ (z : Item). IsWithin levels (tree_of z)) (sym is) (record { sound = h.sound.0; nests = omega arith })
within_at levels (y ∷ ys) (suc i) x h lt is = let d = h.nests in within_at levels ys i x (record { sound = h.sound.1; nests = omega arith }) (omega arith) is

-- one more of the items, and of the pairs
pub items_on : (levels : ℕ) (xs : List Item) (i : ℕ) (x : Item) → i < length xs → x ≡ get_or xs i x → IsWithin levels (tree_of x) → (AreWithin levels (items_value (drop i xs)) → AreWithin levels (items_value xs))
    → AreWithin levels (items_value (drop (i + 1) xs)) → AreWithin levels (items_value xs)
items_on levels xs i x lt is one whole rest =
    let d = one.nests in
    let e = rest.nests in
    whole (subst (λ (l : List Item). AreWithin levels (items_value l)) (sym (dropped xs i x lt is)) (record { sound = (one.sound, rest.sound); nests = omega arith }))

module _ (levels : ℕ) (xs : List (Item × Item)) (i : ℕ) (x : Item × Item) (last : List ℕ) (lt : i < length xs) (is : x ≡ get_or xs i x) where
  pub pairs_on : IsWithin levels (tree_of x.0) → IsWithin levels (tree_of x.1) → IsBefore last (canon (tree_of x.0)) → (ArePairsWithin levels last (pairs_value (drop i xs)) → ArePairsWithin levels [] (pairs_value xs))
      → ArePairsWithin levels (canon (tree_of x.0)) (pairs_value (drop (i + 1) xs)) → ArePairsWithin levels [] (pairs_value xs)
  pairs_on key value before whole rest =
      let d = key.nests in
      let e = value.nests in
      let f = rest.nests in
      whole (subst (λ (l : List (Item × Item)). ArePairsWithin levels last (pairs_value l)) (sym (dropped xs i x lt is)) (record { sound = (key.sound, value.sound, rest.sound); rise = (before, rest.rise); nests = omega arith }))

  pub pairs_left : (ArePairsWithin levels [] (pairs_value xs) → ArePairsWithin levels last (pairs_value (drop i xs))) → ArePairsWithin levels [] (pairs_value xs) → ArePairsWithin levels (canon (tree_of x.0)) (pairs_value (drop (i + 1) xs))
  pairs_left part all =
      let w : ArePairsWithin levels last (pairs_value (x ∷ drop (i + 1) xs)) = subst (λ (l : List (Item × Item)). ArePairsWithin levels last (pairs_value l)) (dropped xs i x lt is) (part all) in
      let d = w.nests in
      record { sound = w.sound.2; rise = w.rise.1; nests = omega arith }
