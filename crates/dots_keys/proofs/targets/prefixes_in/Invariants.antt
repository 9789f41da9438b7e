use Rattle.std.proofs.Common.{◌≡◌, drop}
use Rattle.dots_keys.specs.FieldValues.{items_seen}
use Rattle.dots_keys.specs.Mitigations.{each_item, prefix_of}
use Rattle.dots_keys.proofs.Arrays.{behind}
use Rattle.dots_keys.proofs.targets.prefixes_in.Given as goal

abbrev pub invariant-loop-item : goal.invariant-loop-item
invariant-loop-item l = each_item prefix_of (items_seen l.items) ≡ behind l.prefixes (each_item prefix_of (items_seen (drop l.item-index l.items)))
