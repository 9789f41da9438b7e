use Rattle.std.proofs.Common.{◌+◌, ◌*◌, [], drop}
use Rattle.std.specs.Prelude.{IfSome}
use Rattle.cbor_profile.specs.Valid.{IsSound}
use Rattle.cbor_profile.specs.ItemTrees.{tree_of}
use Rattle.cbor_profile.specs.Within.{AreWithin, ArePairsWithin, canon_of}
use Rattle.cbor_profile.proofs.ItemTrees.{items_value, pairs_value}
use Rattle.cbor_profile.proofs.validity.+validity.Given as goal

-- A part nests one level less.
abbrev pub decreases-is_within : goal.decreases-is_within
decreases-is_within l = 2 * l.levels

abbrev pub decreases-are_within : goal.decreases-are_within
decreases-are_within l = 2 * l.levels + 1

abbrev pub decreases-are_pairs_within : goal.decreases-are_pairs_within
decreases-are_pairs_within l = 2 * l.levels + 1

abbrev pub invariant-are_within-loop-item : goal.invariant-are_within-loop-item
invariant-are_within-loop-item l = AreWithin l.levels (items_value (drop l.item-index l.items)) → AreWithin l.levels (items_value l.items)

abbrev pub invariant-are_pairs_within-loop-key : goal.invariant-are_pairs_within-loop-key
invariant-are_pairs_within-loop-key l =
    IfSome l.last (λ item. IsSound (tree_of item.now))
    × (ArePairsWithin l.levels (canon_of l.last) (pairs_value (drop l.key-index l.pairs)) → ArePairsWithin l.levels [] (pairs_value l.pairs))
    × (ArePairsWithin l.levels [] (pairs_value l.pairs) → ArePairsWithin l.levels (canon_of l.last) (pairs_value (drop l.key-index l.pairs)))
