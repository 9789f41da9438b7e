use Rattle.std.proofs.Common.{sym, ◌∙◌, arith, rules}
use Rattle.cbor_profile.specs.declared.item.Item.{the_lemmas}
use Rattle.cbor_profile.specs.ItemTrees.{tree_of}
use Rattle.cbor_profile.specs.Canon.{canon_items, canon_pairs}
use Rattle.cbor_profile.proofs.Compared.{order, NextItems, NextPairs, items_go_on, items_differ, sounds_at, pairs_go_on, pairs_differ, left_pair, right_pair, same_head, order_equal, order_unequal, pair_equal, pair_unequal}
use Rattle.cbor_profile.proofs.ItemTrees.{items_value, pairs_value, array_is, map_is, items_are, pairs_are, array_sound, map_sound, array_length, map_length}
use Rattle.cbor_profile.proofs.order.+order.Goals as goal

pub compare-compare_contents-requires : goal.compare-compare_contents-requires
compare-compare_contents-requires t c =
    let same = same_head (tree_of c.args.left.now) (tree_of c.args.right.now) c.requires.left_sound c.requires.right_sound (sym c.compare_heads.ensures ∙ c.in-Equal.is) in
    (search rules, (c.requires.left_sound, (c.requires.right_sound, same)))

pub compare-returns-in-Equal : goal.compare-returns-in-Equal
compare-returns-in-Equal t c =
    order_equal (tree_of c.args.left.now) (tree_of c.args.right.now) c.compare_contents.result c.requires.left_sound c.requires.right_sound (sym c.compare_heads.ensures ∙ c.in-Equal.is) c.compare_contents.ensures

pub compare-returns-in_default : goal.compare-returns-in_default
compare-returns-in_default t c =
    order_unequal (tree_of c.args.left.now) (tree_of c.args.right.now) c.compare_heads.result c.requires.left_sound c.requires.right_sound c.in_default.not-Equal c.compare_heads.ensures

pub compare_contents-compare_items-requires : goal.compare_contents-compare_items-requires
compare_contents-compare_items-requires t c =
    let left = array_is c.args.left.now c.in-Array-Array.left c.as_slice.result.now c.in-Array-Array.is-0 (items_are c.in-Array-Array.left c.as_slice.result.now c.as_slice.ensures.value) in
    let right = array_is c.args.right.now c.in-Array-Array.right c.as_slice-in-Array-Array.result.now c.in-Array-Array.is-1
    (items_are c.in-Array-Array.right c.as_slice-in-Array-Array.result.now c.as_slice-in-Array-Array.ensures.value) in (
      search (rules, the_lemmas),
      (
        array_sound (tree_of c.args.left.now) c.as_slice.result.now left c.requires.left_sound,
        (
          array_sound (tree_of c.args.right.now) c.as_slice-in-Array-Array.result.now right c.requires.right_sound,
          array_length (tree_of c.args.left.now) (tree_of c.args.right.now) c.as_slice.result.now c.as_slice-in-Array-Array.result.now left right c.requires.same_argument,
        ),
      ),
    )

pub compare_contents-compare_pairs-requires : goal.compare_contents-compare_pairs-requires
compare_contents-compare_pairs-requires t c =
    let left = map_is c.args.left.now c.in-Map-Map.left c.as_slice-in-Map-Map.result.now c.in-Map-Map.is-0 (pairs_are c.in-Map-Map.left c.as_slice-in-Map-Map.result.now c.as_slice-in-Map-Map.ensures.value) in
    let right = map_is c.args.right.now c.in-Map-Map.right c.as_slice-in-Map-Map-2.result.now c.in-Map-Map.is-1
    (pairs_are c.in-Map-Map.right c.as_slice-in-Map-Map-2.result.now c.as_slice-in-Map-Map-2.ensures.value) in (
      search (rules, the_lemmas),
      (
        map_sound (tree_of c.args.left.now) c.as_slice-in-Map-Map.result.now left c.requires.left_sound,
        (
          map_sound (tree_of c.args.right.now) c.as_slice-in-Map-Map-2.result.now right c.requires.right_sound,
          map_length (tree_of c.args.left.now) (tree_of c.args.right.now) c.as_slice-in-Map-Map.result.now c.as_slice-in-Map-Map-2.result.now left right c.requires.same_argument,
        ),
      ),
    )

pub compare_contents-returns-in-Map-Map : goal.compare_contents-returns-in-Map-Map
compare_contents-returns-in-Map-Map t c =
    let left = map_is c.args.left.now c.in-Map-Map.left c.as_slice-in-Map-Map.result.now c.in-Map-Map.is-0 (pairs_are c.in-Map-Map.left c.as_slice-in-Map-Map.result.now c.as_slice-in-Map-Map.ensures.value) in
    let right = map_is c.args.right.now c.in-Map-Map.right c.as_slice-in-Map-Map-2.result.now c.in-Map-Map.is-1
    (pairs_are c.in-Map-Map.right c.as_slice-in-Map-Map-2.result.now c.as_slice-in-Map-Map-2.ensures.value) in
    rw (left, right) c.compare_pairs.ensures

pub compare_items-compare-requires : goal.compare_items-compare-requires
compare_items-compare-requires t c =
    let next : NextItems c.args.left.now c.args.right.now c.loop-i.i c.index-left-i.result c.index-right-i.result =
    record { left_sound = c.requires.left_sound; right_sound = c.requires.right_sound; left_in = c.loop-i-test.true; right_in = omega arith; left_is = c.index-left-i.is; right_is = c.index-right-i.is } in
    let sound = sounds_at c.args.left.now c.args.right.now c.loop-i.i c.index-left-i.result c.index-right-i.result next in
    (search (rules, the_lemmas), (sound.0, sound.1))

pub compare_items-returns-in_default : goal.compare_items-returns-in_default
compare_items-returns-in_default t c =
    let next : NextItems c.args.left.now c.args.right.now c.loop-i.i c.index-left-i.result c.index-right-i.result =
    record { left_sound = c.requires.left_sound; right_sound = c.requires.right_sound; left_in = c.loop-i-test.true; right_in = omega arith; left_is = c.index-left-i.is; right_is = c.index-right-i.is } in
    items_differ (order (canon_items (items_value c.args.left.now)) (canon_items (items_value c.args.right.now))) c.compare.result c.args.left.now c.args.right.now c.loop-i.i c.index-left-i.result c.index-right-i.result next c.loop-i.invariant
    c.in_default.not-Equal c.compare.ensures

pub compare_items-loop-i-preserved : goal.compare_items-loop-i-preserved
compare_items-loop-i-preserved t c =
    let next : NextItems c.args.left.now c.args.right.now c.loop-i.i c.index-left-i.result c.index-right-i.result =
    record { left_sound = c.requires.left_sound; right_sound = c.requires.right_sound; left_in = c.loop-i-test.true; right_in = omega arith; left_is = c.index-left-i.is; right_is = c.index-right-i.is } in
    items_go_on (order (canon_items (items_value c.args.left.now)) (canon_items (items_value c.args.right.now))) c.args.left.now c.args.right.now c.loop-i.i c.index-left-i.result c.index-right-i.result next c.loop-i.invariant
    (sym c.compare.ensures ∙ c.in-Equal.is)

pub compare_pairs-compare-requires : goal.compare_pairs-compare-requires
compare_pairs-compare-requires t c =
    let next : NextPairs c.args.left.now c.args.right.now c.loop-i.i c.index-left-i.result c.index-right-i.result =
    record { left_sound = c.requires.left_sound; right_sound = c.requires.right_sound; left_in = c.loop-i-test.true; right_in = omega arith; left_is = c.index-left-i.is; right_is = c.index-right-i.is } in
    let left = left_pair c.args.left.now c.args.right.now c.loop-i.i c.index-left-i.result c.index-right-i.result next in
    let right = right_pair c.args.left.now c.args.right.now c.loop-i.i c.index-left-i.result c.index-right-i.result next in
    (search (rules, the_lemmas), (left.0, right.0))

pub compare_pairs-compare-requires-in-loop-i : goal.compare_pairs-compare-requires-in-loop-i
compare_pairs-compare-requires-in-loop-i t c =
    let next : NextPairs c.args.left.now c.args.right.now c.loop-i.i c.index-left-i.result c.index-right-i.result =
    record { left_sound = c.requires.left_sound; right_sound = c.requires.right_sound; left_in = c.loop-i-test.true; right_in = omega arith; left_is = c.index-left-i.is; right_is = c.index-right-i.is } in
    let left = left_pair c.args.left.now c.args.right.now c.loop-i.i c.index-left-i.result c.index-right-i.result next in
    let right = right_pair c.args.left.now c.args.right.now c.loop-i.i c.index-left-i.result c.index-right-i.result next in
    (search (rules, the_lemmas), (left.1, right.1))

pub compare_pairs-returns-in_default : goal.compare_pairs-returns-in_default
compare_pairs-returns-in_default t c =
    let next : NextPairs c.args.left.now c.args.right.now c.loop-i.i c.index-left-i.result c.index-right-i.result =
    record { left_sound = c.requires.left_sound; right_sound = c.requires.right_sound; left_in = c.loop-i-test.true; right_in = omega arith; left_is = c.index-left-i.is; right_is = c.index-right-i.is } in
    let left = left_pair c.args.left.now c.args.right.now c.loop-i.i c.index-left-i.result c.index-right-i.result next in
    let right = right_pair c.args.left.now c.args.right.now c.loop-i.i c.index-left-i.result c.index-right-i.result next in
    let pair = pair_unequal (tree_of c.index-left-i.result.0) (tree_of c.index-left-i.result.1) (tree_of c.index-right-i.result.0) (tree_of c.index-right-i.result.1) c.compare.result left.0 right.0 c.in_default.not-Equal c.compare.ensures in
    pairs_differ (order (canon_pairs (pairs_value c.args.left.now)) (canon_pairs (pairs_value c.args.right.now))) c.compare.result c.args.left.now c.args.right.now c.loop-i.i c.index-left-i.result c.index-right-i.result next c.loop-i.invariant c.in_default.not-Equal pair

pub compare_pairs-returns-in_default-compare : goal.compare_pairs-returns-in_default-compare
compare_pairs-returns-in_default-compare t c =
    let next : NextPairs c.args.left.now c.args.right.now c.loop-i.i c.index-left-i.result c.index-right-i.result =
    record { left_sound = c.requires.left_sound; right_sound = c.requires.right_sound; left_in = c.loop-i-test.true; right_in = omega arith; left_is = c.index-left-i.is; right_is = c.index-right-i.is } in
    let left = left_pair c.args.left.now c.args.right.now c.loop-i.i c.index-left-i.result c.index-right-i.result next in
    let right = right_pair c.args.left.now c.args.right.now c.loop-i.i c.index-left-i.result c.index-right-i.result next in
    let pair = pair_equal (tree_of c.index-left-i.result.0) (tree_of c.index-left-i.result.1) (tree_of c.index-right-i.result.0) (tree_of c.index-right-i.result.1) c.compare-in-loop-i.result left.0 right.0 (sym c.compare.ensures ∙ c.in-Equal.is) c.compare-in-loop-i.ensures in
    pairs_differ (order (canon_pairs (pairs_value c.args.left.now)) (canon_pairs (pairs_value c.args.right.now))) c.compare-in-loop-i.result c.args.left.now c.args.right.now c.loop-i.i c.index-left-i.result c.index-right-i.result next c.loop-i.invariant c.in_default-compare.not-Equal pair

pub compare_pairs-loop-i-preserved : goal.compare_pairs-loop-i-preserved
compare_pairs-loop-i-preserved t c =
    let next : NextPairs c.args.left.now c.args.right.now c.loop-i.i c.index-left-i.result c.index-right-i.result =
    record { left_sound = c.requires.left_sound; right_sound = c.requires.right_sound; left_in = c.loop-i-test.true; right_in = omega arith; left_is = c.index-left-i.is; right_is = c.index-right-i.is } in
    let left = left_pair c.args.left.now c.args.right.now c.loop-i.i c.index-left-i.result c.index-right-i.result next in
    let right = right_pair c.args.left.now c.args.right.now c.loop-i.i c.index-left-i.result c.index-right-i.result next in
    let pair = pair_equal (tree_of c.index-left-i.result.0) (tree_of c.index-left-i.result.1) (tree_of c.index-right-i.result.0) (tree_of c.index-right-i.result.1) c.compare-in-loop-i.result left.0 right.0 (sym c.compare.ensures ∙ c.in-Equal.is) c.compare-in-loop-i.ensures in
    pairs_go_on (order (canon_pairs (pairs_value c.args.left.now)) (canon_pairs (pairs_value c.args.right.now))) c.args.left.now c.args.right.now c.loop-i.i c.index-left-i.result c.index-right-i.result next c.loop-i.invariant (sym pair ∙ c.in-Equal-compare.is)
