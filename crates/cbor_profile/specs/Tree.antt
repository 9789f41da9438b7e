-- A data item as a tree (RFC 8949, section 3.1).
use Rattle.std.specs.Prelude.{ℕ, suc, List, [], ◌∷◌, Bool}

mutual
  pub data Tree : Type 0 where
    unsigned : ℕ → Tree
    -- the number -1 - n
    negative : ℕ → Tree
    byte_string : List ℕ → Tree
    text : List ℕ → Tree
    array : Trees → Tree
    mapping : Pairs → Tree
    tag : ℕ → Tree → Tree
    boolean : Bool → Tree
    null : Tree

  pub data Trees : Type 0 where
    no_items : Trees
    item : Tree → Trees → Trees

  pub data Pairs : Type 0 where
    no_pairs : Pairs
    pair : Tree → Tree → Pairs → Pairs

abbrev pub count : Trees → ℕ
count no_items = 0
count (item t ts) = suc (count ts)

abbrev pub pair_count : Pairs → ℕ
pair_count no_pairs = 0
pair_count (pair k v ps) = suc (pair_count ps)

abbrev pub items_of : List Tree → Trees
items_of [] = no_items
items_of (t ∷ ts) = item t (items_of ts)

abbrev pub pairs_of : List (Tree × Tree) → Pairs
pairs_of [] = no_pairs
pairs_of (p ∷ ps) = pair p.0 p.1 (pairs_of ps)
