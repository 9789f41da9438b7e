use Rattle.std.proofs.Common.{◌≡◌, drop}
use Rattle.serde_json.specs.View.{items_view}
use Rattle.list_json.specs.Values.{name_of}
use Rattle.list_json.specs.declared.fault.Member.TheVariants as the
use Rattle.list_json.specs.Steps.{each_item}
use Rattle.list_json.proofs.Arrays.{behind}
use Rattle.list_json.proofs.alias_reading.names_of.Given as goal

abbrev pub invariant-loop-item : goal.invariant-loop-item
invariant-loop-item l = each_item (name_of the.TargetFqdn) (items_view l.items) ≡ behind l.names (each_item (name_of the.TargetFqdn) (items_view (drop l.item-index l.items)))
