use Rattle.std.proofs.Common.{◌≡◌, map, take}
use Rattle.cbor_profile.specs.ItemTrees.{trees}
use Rattle.cbor_profile.specs.Tree.{text}
use Rattle.reply_bodies.specs.Within.{AllWithin}
use Rattle.reply_bodies.proofs.targets.name_items.Given as goal

abbrev pub invariant-loop-name : goal.invariant-loop-name
invariant-loop-name l = record {
  is : trees l.items ≡ map text (take l.name-index l.names);
  within : AllWithin 1 (map text (take l.name-index l.names));
}
