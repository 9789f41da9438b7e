use Rattle.std.proofs.Common.{◌≡◌, drop}
use Rattle.dots_keys.specs.FieldValues.{items_seen}
use Rattle.dots_keys.specs.Mitigations.{each_item, range_of}
use Rattle.dots_keys.proofs.Arrays.{behind}
use Rattle.dots_keys.proofs.targets.ports_of.Given as goal

abbrev pub invariant-loop-item : goal.invariant-loop-item
invariant-loop-item l = each_item range_of (items_seen l.items) ≡ behind l.ports (each_item range_of (items_seen (drop l.item-index l.items)))
