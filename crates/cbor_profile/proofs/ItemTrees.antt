-- An item beside its tree.
use Rattle.std.proofs.Common.{◌≡◌, ℕ, suc, ◌+◌, ◌<◌, List, [], ◌∷◌, length, get_or, drop, map, refl, sym, ap, subst, ◌∙◌, rules, drop-cons, add-one}
use Rattle.cbor_profile.specs.declared.item.Item.{Item, Unsigned, Bytes, Text, Array, Map, the_lemmas}
use Rattle.cbor_profile.specs.declared.item.ItemList.{ItemList, the_lemmas as items_lemmas}
use Rattle.cbor_profile.specs.declared.item.PairList.{PairList, the_lemmas as pairs_lemmas}
use Rattle.cbor_profile.specs.Tree.{Tree, Trees, Pairs, unsigned, byte_string, text, array, mapping, count, pair_count}
use Rattle.cbor_profile.specs.Parts.{argument}
use Rattle.cbor_profile.specs.Valid.{IsSound, AreSound, ArePairsSound}
use Rattle.cbor_profile.specs.ItemTrees.{tree_of, trees, tree_pairs, items_of, pairs_of}

abbrev pub items_value : List Item → Trees
items_value xs = items_of (map tree_of xs)

abbrev pub pairs_value : List (Item × Item) → Pairs
pairs_value xs = pairs_of (map (λ p. (tree_of p.0, tree_of p.1)) xs)

-- the next element, in front of those behind it
pub dropped : {A : Type 0} (xs : List A) (i : ℕ) (x : A) → i < length xs → x ≡ get_or xs i x → drop i xs ≡ x ∷ drop (i + 1) xs
dropped {A} xs i x lt is = rw add-one (drop-cons xs i x lt ∙ ap (λ (y : A). y ∷ drop (suc i) xs) (sym is))

pub count_is : (xs : List Item) → count (items_value xs) ≡ length xs
count_is [] = refl
count_is (x ∷ xs) = ap suc (count_is xs)

pub pair_count_is : (xs : List (Item × Item)) → pair_count (pairs_value xs) ≡ length xs
pair_count_is [] = refl
pair_count_is (x ∷ xs) = ap suc (pair_count_is xs)

pub trees_are : (list : ItemList) → map tree_of list.items.items ≡ trees list
trees_are list = search (rules, items_lemmas)

pub tree_pairs_are : (list : PairList) → map (λ p. (tree_of p.0, tree_of p.1)) list.items.items ≡ tree_pairs list
tree_pairs_are list = search (rules, pairs_lemmas)

pub tree_of-Unsigned : (number : ℕ) → tree_of (Unsigned number) ≡ unsigned number
tree_of-Unsigned number = search (rules, the_lemmas)

pub tree_of-Bytes : (bytes : List ℕ) → tree_of (Bytes bytes) ≡ byte_string bytes
tree_of-Bytes bytes = search (rules, the_lemmas)

pub tree_of-Text : (bytes : List ℕ) → tree_of (Text bytes) ≡ text bytes
tree_of-Text bytes = search (rules, the_lemmas)

pub tree_of-Array : (list : ItemList) → tree_of (Array list) ≡ array (items_of (trees list))
tree_of-Array list = search (rules, the_lemmas)

pub tree_of-Map : (list : PairList) → tree_of (Map list) ≡ mapping (pairs_of (tree_pairs list))
tree_of-Map list = search (rules, the_lemmas)

-- the tree of an array, and that of a map, by their items
pub array_is : (it : Item) (list : ItemList) (xs : List Item) → it ≡ Array list → map tree_of xs ≡ trees list → tree_of it ≡ array (items_value xs)
array_is it list xs is same = ap tree_of is ∙ tree_of-Array list ∙ ap (λ (ts : List Tree). array (items_of ts)) (sym same)

pub map_is : (it : Item) (list : PairList) (xs : List (Item × Item)) → it ≡ Map list → map (λ p. (tree_of p.0, tree_of p.1)) xs ≡ tree_pairs list → tree_of it ≡ mapping (pairs_value xs)
map_is it list xs is same = ap tree_of is ∙ tree_of-Map list ∙ ap (λ (ps : List (Tree × Tree)). mapping (pairs_of ps)) (sym same)

pub array_argument : (t : Tree) (xs : List Item) → t ≡ array (items_value xs) → length xs ≡ argument t
array_argument t xs is = sym (count_is xs) ∙ ap argument (sym is)

pub map_argument : (t : Tree) (xs : List (Item × Item)) → t ≡ mapping (pairs_value xs) → length xs ≡ argument t
map_argument t xs is = sym (pair_count_is xs) ∙ ap argument (sym is)

pub items_are : (list : ItemList) (xs : List Item) → xs ≡ list.items.items → map tree_of xs ≡ trees list
items_are list xs is = ap (map tree_of) is ∙ trees_are list

pub pairs_are : (list : PairList) (xs : List (Item × Item)) → xs ≡ list.items.items → map (λ p. (tree_of p.0, tree_of p.1)) xs ≡ tree_pairs list
pairs_are list xs is = ap (map (λ p. (tree_of p.0, tree_of p.1))) is ∙ tree_pairs_are list

pub array_sound : (t : Tree) (xs : List Item) → t ≡ array (items_value xs) → IsSound t → AreSound (items_value xs)
array_sound t xs is h = (subst IsSound is h).1

pub map_sound : (t : Tree) (xs : List (Item × Item)) → t ≡ mapping (pairs_value xs) → IsSound t → ArePairsSound (pairs_value xs)
map_sound t xs is h = (subst IsSound is h).1

pub array_length : (t u : Tree) (xs ys : List Item) → t ≡ array (items_value xs) → u ≡ array (items_value ys) → argument t ≡ argument u → length xs ≡ length ys
array_length t u xs ys is js e = sym (count_is xs) ∙ ap argument (sym is) ∙ e ∙ ap argument js ∙ count_is ys

pub map_length : (t u : Tree) (xs ys : List (Item × Item)) → t ≡ mapping (pairs_value xs) → u ≡ mapping (pairs_value ys) → argument t ≡ argument u → length xs ≡ length ys
map_length t u xs ys is js e = sym (pair_count_is xs) ∙ ap argument (sym is) ∙ e ∙ ap argument js ∙ pair_count_is ys
