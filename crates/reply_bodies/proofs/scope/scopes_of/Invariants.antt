use Rattle.std.proofs.Common.{◌≡◌, map, take}
use Rattle.cbor_profile.specs.ItemTrees.{trees}
use Rattle.reply_bodies.specs.Mitigations.{scope_of}
use Rattle.reply_bodies.specs.Within.{AllWithin}
use Rattle.reply_bodies.proofs.scope.scopes_of.Given as goal

abbrev pub invariant-loop-view : goal.invariant-loop-view
invariant-loop-view l = record {
  is : trees l.items ≡ map scope_of (take l.view-index l.views);
  within : AllWithin 5 (map scope_of (take l.view-index l.views));
}
