use Rattle.std.proofs.Common.{◌≡◌, map, take}
use Rattle.cbor_profile.specs.ItemTrees.{trees}
use Rattle.cbor_profile.specs.Tree.{unsigned}
use Rattle.reply_bodies.specs.Within.{AllWithin}
use Rattle.reply_bodies.proofs.targets.protocol_items.Given as goal

abbrev pub invariant-loop-protocol : goal.invariant-loop-protocol
invariant-loop-protocol l = record {
  is : trees l.items ≡ map unsigned (take l.protocol-index l.protocols);
  within : AllWithin 1 (map unsigned (take l.protocol-index l.protocols));
}
