use Rattle.std.proofs.Common.{◌≡◌, drop}
use Rattle.cbor_profile.specs.Canon.{canon_items, canon_pairs}
use Rattle.cbor_profile.proofs.Compared.{order}
use Rattle.cbor_profile.proofs.ItemTrees.{items_value, pairs_value}
use Rattle.cbor_profile.proofs.order.+order.Given as goal

abbrev pub invariant-compare_items-loop-i : goal.invariant-compare_items-loop-i
invariant-compare_items-loop-i l =
    order (canon_items (items_value l.left)) (canon_items (items_value l.right)) ≡ order (canon_items (items_value (drop l.i l.left))) (canon_items (items_value (drop l.i l.right)))

abbrev pub invariant-compare_pairs-loop-i : goal.invariant-compare_pairs-loop-i
invariant-compare_pairs-loop-i l =
    order (canon_pairs (pairs_value l.left)) (canon_pairs (pairs_value l.right)) ≡ order (canon_pairs (pairs_value (drop l.i l.left))) (canon_pairs (pairs_value (drop l.i l.right)))
