use Rattle.std.proofs.Common.{◌≡◌, ◌++◌, map, drop}
use Rattle.cbor_profile.specs.Canon.{canon_items, canon_pairs}
use Rattle.cbor_profile.specs.ItemTrees.{tree_of, items_of, pairs_of}
use Rattle.cbor_profile.proofs.writing.+writer.Given as goal

-- what was written, and what is still to be written
abbrev pub invariant-write_items-loop-item : goal.invariant-write_items-loop-item
invariant-write_items-loop-item l =
    l.out.items ++ canon_items (items_of (map tree_of (drop l.item-index l.items))) ≡ l.fn.out.items ++ canon_items (items_of (map tree_of l.items))

abbrev pub invariant-write_pairs-loop-key : goal.invariant-write_pairs-loop-key
invariant-write_pairs-loop-key l =
    l.out.items ++ canon_pairs (pairs_of (map (λ p. (tree_of p.0, tree_of p.1)) (drop l.key-index l.pairs)))
    ≡ l.fn.out.items ++ canon_pairs (pairs_of (map (λ p. (tree_of p.0, tree_of p.1)) l.pairs))
