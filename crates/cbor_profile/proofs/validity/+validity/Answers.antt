use Rattle.std.proofs.Common.{true≢false, refl, sym, arith}
use Rattle.cbor_profile.specs.Within.{canon_of}
use Rattle.cbor_profile.specs.ItemTrees.{tree_of}
use Rattle.cbor_profile.proofs.Levels.{array_within, within_array, map_within, within_map, within_at, items_on, pairs_on, pairs_left}
use Rattle.cbor_profile.proofs.ItemTrees.{array_is, map_is}
use Rattle.cbor_profile.proofs.validity.+validity.Goals as goal

pub are_within-returns-then-not-is_within : goal.are_within-returns-then-not-is_within
are_within-returns-then-not-is_within t c = (
  λ yes. absurd (true≢false (sym yes)),
  λ all. c.if-not-is_within.ensures.1 (within_at c.args.levels c.args.items.now c.loop-item.item-index c.item-item.result all c.loop-item-test.true c.item-item.is),
)

pub is_within-returns-then-levels-gt0 : goal.is_within-returns-then-levels-gt0
is_within-returns-then-levels-gt0 t c =
    let is = array_is c.args.item.now c.in-Array.list c.items.result.now c.in-Array.is c.items.ensures in (
      λ yes. array_within c.args.levels (tree_of c.args.item.now) c.items.result.now is c.if-levels-gt0.true (omega arith) (c.are_within.ensures.0 yes),
      λ within. c.are_within.ensures.1 (within_array c.args.levels (tree_of c.args.item.now) c.items.result.now is within),
    )

pub is_within-returns-then-levels-gt0-2 : goal.is_within-returns-then-levels-gt0-2
is_within-returns-then-levels-gt0-2 t c =
    let is = map_is c.args.item.now c.in-Map.list c.items-then-levels-gt0-2.result.now c.in-Map.is c.items-then-levels-gt0-2.ensures in (
      λ yes. map_within c.args.levels (tree_of c.args.item.now) c.items-then-levels-gt0-2.result.now is c.if-levels-gt0-2.true (omega arith) (c.are_pairs_within.ensures.0 yes),
      λ within. c.are_pairs_within.ensures.1 (within_map c.args.levels (tree_of c.args.item.now) c.items-then-levels-gt0-2.result.now is within),
    )

pub are_within-loop-item-preserved : goal.are_within-loop-item-preserved
are_within-loop-item-preserved t c = items_on c.args.levels c.args.items.now c.loop-item.item-index c.item-item.result c.loop-item-test.true c.item-item.is (c.if-not-is_within.ensures.0 refl) c.loop-item.invariant

pub are_pairs_within-loop-key-preserved : goal.are_pairs_within-loop-key-preserved
are_pairs_within-loop-key-preserved t c =
    let key = c.if-not-is_within.ensures.0 refl in
    let value = c.if-not-is_within-2.ensures.0 refl in (
      key.sound,
      pairs_on c.args.levels c.args.pairs.now c.loop-key.key-index c.loop-key-item.result (canon_of c.loop-key.last) c.loop-key-test.true c.loop-key-item.is key value (c.if-not-rises.ensures.0 refl) c.loop-key.invariant.1,
      pairs_left c.args.levels c.args.pairs.now c.loop-key.key-index c.loop-key-item.result (canon_of c.loop-key.last) c.loop-key-test.true c.loop-key-item.is c.loop-key.invariant.2,
    )
