-- What was written is the encoding.
use Rattle.std.proofs.Common.{◌≡◌, ℕ, ◌+◌, ◌<◌, List, ◌++◌, length, get_or, drop, map, Result, Ok, Err, sym, ap, ◌∙◌, append_assoc}
use Rattle.std.specs.Prelude.{OnOk}
use Rattle.cbor_profile.specs.declared.item.Item.{Item, Bytes, Text}
use Rattle.cbor_profile.specs.declared.item.ItemList.{ItemList}
use Rattle.cbor_profile.specs.declared.item.PairList.{PairList}
use Rattle.cbor_profile.specs.Tree.{Tree, array, mapping, count, pair_count}
use Rattle.cbor_profile.specs.Head.{head}
use Rattle.cbor_profile.specs.Canon.{canon, canon_items, canon_pairs}
use Rattle.cbor_profile.proofs.ItemTrees.{items_value, pairs_value, dropped, count_is, pair_count_is, trees_are, tree_pairs_are, tree_of-Bytes, tree_of-Text}
use Rattle.cbor_profile.specs.ItemTrees.{tree_of, trees, tree_pairs, items_of, pairs_of}

pub on_ok_then : {X E : Type 0} (r : Result X E) {P Q : Type 0} → OnOk r P → (P → Q) → OnOk r Q
on_ok_then (Ok x) p f = f p
on_ok_then (Err e) p f = tt

pub array_written : (old between new : List ℕ) (xs : List Item) (list : ItemList) → xs ≡ list.items.items → between ≡ old ++ head 4 (length xs) → new ≡ between ++ canon_items (items_of (map tree_of xs))
    → new ≡ old ++ canon (array (items_of (trees list)))
array_written old between new xs list is first e =
    let same : canon (array (items_of (map tree_of xs))) ≡ canon (array (items_of (trees list))) = ap (λ (ts : List Tree). canon (array (items_of ts))) (ap (map tree_of) is ∙ trees_are list) in
    let counted = ap (λ (k : ℕ). old ++ head 4 k) (sym (count_is xs)) in
    let rest : List ℕ = canon_items (items_of (map tree_of xs)) in
    e ∙ ap (λ (l : List ℕ). l ++ rest) (first ∙ counted) ∙ append_assoc old (head 4 (count (items_of (map tree_of xs)))) rest ∙ ap (λ (l : List ℕ). old ++ l) same

pub map_written : (old between new : List ℕ) (xs : List (Item × Item)) (list : PairList) → xs ≡ list.items.items → between ≡ old ++ head 5 (length xs)
    → new ≡ between ++ canon_pairs (pairs_of (map (λ p. (tree_of p.0, tree_of p.1)) xs)) → new ≡ old ++ canon (mapping (pairs_of (tree_pairs list)))
map_written old between new xs list is first e =
    let view : List (Item × Item) → List (Tree × Tree) = map (λ p. (tree_of p.0, tree_of p.1)) in
    let same : canon (mapping (pairs_of (view xs))) ≡ canon (mapping (pairs_of (tree_pairs list))) = ap (λ (ts : List (Tree × Tree)). canon (mapping (pairs_of ts))) (ap view is ∙ tree_pairs_are list) in
    let counted = ap (λ (k : ℕ). old ++ head 5 k) (sym (pair_count_is xs)) in
    let rest : List ℕ = canon_pairs (pairs_of (view xs)) in
    e ∙ ap (λ (l : List ℕ). l ++ rest) (first ∙ counted) ∙ append_assoc old (head 5 (pair_count (pairs_of (view xs)))) rest ∙ ap (λ (l : List ℕ). old ++ l) same

module _ {X E : Type 0} (r : Result X E) (old new : List ℕ) where
  pub bytes_written : (it : Item) (s bytes : List ℕ) → it ≡ Bytes bytes → s ≡ bytes → OnOk r (new ≡ old ++ (head 2 (length s) ++ s)) → OnOk r (new ≡ old ++ canon (tree_of it))
  bytes_written it s bytes is same h =
      let encoding = ap (λ (l : List ℕ). head 2 (length l) ++ l) same ∙ ap canon (sym (tree_of-Bytes bytes)) ∙ ap (λ (i : Item). canon (tree_of i)) (sym is) in
      on_ok_then r h (λ e. e ∙ ap (λ (l : List ℕ). old ++ l) encoding)

  pub text_written : (it : Item) (s bytes : List ℕ) → it ≡ Text bytes → s ≡ bytes → OnOk r (new ≡ old ++ (head 3 (length s) ++ s)) → OnOk r (new ≡ old ++ canon (tree_of it))
  text_written it s bytes is same h =
      let encoding = ap (λ (l : List ℕ). head 3 (length l) ++ l) same ∙ ap canon (sym (tree_of-Text bytes)) ∙ ap (λ (i : Item). canon (tree_of i)) (sym is) in
      on_ok_then r h (λ e. e ∙ ap (λ (l : List ℕ). old ++ l) encoding)

pub tag_written : (old between new : List ℕ) (n : ℕ) (t : Tree) → between ≡ old ++ head 6 n → new ≡ between ++ canon t → new ≡ old ++ (head 6 n ++ canon t)
tag_written old between new n t first second = second ∙ ap (λ (l : List ℕ). l ++ canon t) first ∙ append_assoc old (head 6 n) (canon t)

-- one more of the items, and of the pairs
pub items_on : (old new : List ℕ) (xs : List Item) (i : ℕ) (x : Item) (total : List ℕ) → i < length xs → x ≡ get_or xs i x → new ≡ old ++ canon (tree_of x) → old ++ canon_items (items_value (drop i xs)) ≡ total
    → new ++ canon_items (items_value (drop (i + 1) xs)) ≡ total
items_on old new xs i x total lt is wrote so_far =
    let rest : List ℕ = canon_items (items_value (drop (i + 1) xs)) in
    ap (λ (l : List ℕ). l ++ rest) wrote ∙ append_assoc old (canon (tree_of x)) rest ∙ sym (ap (λ (l : List Item). old ++ canon_items (items_value l)) (dropped xs i x lt is)) ∙ so_far

pub pairs_on : (old between new : List ℕ) (xs : List (Item × Item)) (i : ℕ) (x : Item × Item) (total : List ℕ) → i < length xs → x ≡ get_or xs i x → between ≡ old ++ canon (tree_of x.0) → new ≡ between ++ canon (tree_of x.1)
    → old ++ canon_pairs (pairs_value (drop i xs)) ≡ total → new ++ canon_pairs (pairs_value (drop (i + 1) xs)) ≡ total
pairs_on old between new xs i x total lt is first second so_far =
    let rest : List ℕ = canon_pairs (pairs_value (drop (i + 1) xs)) in
    let key : List ℕ = canon (tree_of x.0) in
    let value : List ℕ = canon (tree_of x.1) in
    ap (λ (l : List ℕ). l ++ rest) (second ∙ ap (λ (l : List ℕ). l ++ value) first) ∙ append_assoc (old ++ key) value rest ∙ append_assoc old key (value ++ rest)
    ∙ sym (ap (λ (l : List (Item × Item)). old ++ canon_pairs (pairs_value l)) (dropped xs i x lt is)) ∙ so_far
