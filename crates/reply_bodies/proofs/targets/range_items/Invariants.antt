use Rattle.std.proofs.Common.{◌≡◌, map, take}
use Rattle.cbor_profile.specs.ItemTrees.{trees}
use Rattle.reply_bodies.specs.Mitigations.{range_tree}
use Rattle.reply_bodies.specs.Within.{AllWithin}
use Rattle.reply_bodies.proofs.targets.range_items.Given as goal

abbrev pub invariant-loop-range : goal.invariant-loop-range
invariant-loop-range l = record {
  is : trees l.items ≡ map range_tree (take l.range-index l.ranges);
  within : AllWithin 1 (map range_tree (take l.range-index l.ranges));
}
