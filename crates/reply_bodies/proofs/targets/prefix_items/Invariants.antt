use Rattle.std.proofs.Common.{◌≡◌, map, take}
use Rattle.cbor_profile.specs.ItemTrees.{trees}
use Rattle.reply_bodies.specs.Mitigations.{prefix_tree}
use Rattle.reply_bodies.specs.Within.{AllWithin}
use Rattle.reply_bodies.proofs.targets.prefix_items.Given as goal

abbrev pub invariant-loop-prefix : goal.invariant-loop-prefix
invariant-loop-prefix l = record {
  is : trees l.items ≡ map prefix_tree (take l.prefix-index l.prefixes);
  within : AllWithin 1 (map prefix_tree (take l.prefix-index l.prefixes));
}
