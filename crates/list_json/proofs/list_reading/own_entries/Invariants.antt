use Rattle.std.proofs.Common.{◌≡◌, drop}
use Rattle.serde_json.specs.View.{items_view}
use Rattle.list_json.specs.Lists.{entry_of}
use Rattle.list_json.specs.Steps.{each_item}
use Rattle.list_json.proofs.Arrays.{behind}
use Rattle.list_json.proofs.list_reading.own_entries.Given as goal

abbrev pub invariant-loop-item : goal.invariant-loop-item
invariant-loop-item l = each_item (entry_of l.family) (items_view l.items) ≡ behind l.entries (each_item (entry_of l.family) (items_view (drop l.item-index l.items)))
