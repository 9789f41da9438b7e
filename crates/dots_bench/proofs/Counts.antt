-- A list of items or pairs is as long as the list of their trees.
use Rattle.std.proofs.Common.{◌≡◌, suc, List, [], ◌∷◌, length, map, refl, sym, ap, ◌∙◌}
use Rattle.cbor_profile.specs.Tree.{Tree, count, pair_count}
use Rattle.cbor_profile.specs.ItemTrees.{items_of, pairs_of}

trees_counted : (trees : List Tree) → count (items_of trees) ≡ length trees
trees_counted [] = refl
trees_counted (tree ∷ trees) = ap suc (trees_counted trees)

pairs_counted : (pairs : List (Tree × Tree)) → pair_count (pairs_of pairs) ≡ length pairs
pairs_counted [] = refl
pairs_counted (pair ∷ pairs) = ap suc (pairs_counted pairs)

mapped : {A B : Type 0} (f : A → B) (xs : List A) → length (map f xs) ≡ length xs
mapped f [] = refl
mapped f (x ∷ xs) = ap suc (mapped f xs)

pub items_counted : {A : Type 0} (f : A → Tree) (items : List A) (trees : List Tree) → map f items ≡ trees → length items ≡ count (items_of trees)
items_counted f items trees is = sym (mapped f items) ∙ ap length is ∙ sym (trees_counted trees)

pub pairs_all_counted : {A : Type 0} (f : A → Tree × Tree) (items : List A) (pairs : List (Tree × Tree)) → map f items ≡ pairs → length items ≡ pair_count (pairs_of pairs)
pairs_all_counted f items pairs is = sym (mapped f items) ∙ ap length is ∙ sym (pairs_counted pairs)
