use Rattle.std.proofs.Common.{◌≡◌, ◌++◌, length, map}
use Rattle.cbor_profile.specs.ItemTrees.{pair_of, tree_pairs}
use Rattle.cbor_profile.specs.Gathering.{encoded_pairs, AreEncoded}
use Rattle.cbor_profile.proofs.gathering.by_encoding.Given as goal

-- the pairs that are left in the list stand in front of those that were taken
abbrev pub invariant-loop-pair : goal.invariant-loop-pair
invariant-loop-pair l = record {
  whole : map pair_of l.list.items.items ++ encoded_pairs l.pairs.entries ≡ tree_pairs l.fn.list;
  kept : AreEncoded l.pairs.entries;
}

abbrev pub decreases-loop-pair : goal.decreases-loop-pair
decreases-loop-pair l = length l.list.items.items
