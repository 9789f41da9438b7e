-- What is sound and nests at most some levels deep.
use Rattle.std.specs.Prelude.{ℕ, ◌≤◌, List, [], Option, Some, None}
use Rattle.std.specs.Borrow.{Bor}
use Rattle.cbor_profile.specs.declared.item.Item.{Item}
use Rattle.cbor_profile.specs.Tree.{Tree, Trees, Pairs}
use Rattle.cbor_profile.specs.Canon.{canon}
use Rattle.cbor_profile.specs.Valid.{IsSound, AreSound, ArePairsSound, RiseFrom, depth, items_depth, pairs_depth}
use Rattle.cbor_profile.specs.ItemTrees.{tree_of}

pub record IsWithin (levels : ℕ) (tree : Tree) : Type 0 where
  pub sound : IsSound tree
  pub nests : depth tree ≤ levels

pub record AreWithin (levels : ℕ) (ts : Trees) : Type 0 where
  pub sound : AreSound ts
  pub nests : items_depth ts ≤ levels

-- pairs whose keys rise, the first of them above last
pub record ArePairsWithin (levels : ℕ) (last : List ℕ) (ps : Pairs) : Type 0 where
  pub sound : ArePairsSound ps
  pub rise : RiseFrom last ps
  pub nests : pairs_depth ps ≤ levels

-- the encoding of an item that may be there, and nothing where it isn't
abbrev pub canon_of : Option (Bor Item) → List ℕ
canon_of None = []
canon_of (Some item) = canon (tree_of item.now)
