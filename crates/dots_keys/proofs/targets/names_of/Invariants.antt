use Rattle.std.proofs.Common.{◌≡◌, drop}
use Rattle.dots_keys.specs.FieldValues.{items_seen}
use Rattle.dots_keys.specs.Mitigations.{each_item, name_of}
use Rattle.dots_keys.proofs.Arrays.{behind}
use Rattle.dots_keys.proofs.targets.names_of.Given as goal

abbrev pub invariant-loop-item : goal.invariant-loop-item
invariant-loop-item l = each_item (name_of l.key) (items_seen l.items) ≡ behind l.names (each_item (name_of l.key) (items_seen (drop l.item-index l.items)))
