use Rattle.std.proofs.Common.{◌≡◌, map, take}
use Rattle.serde_json.specs.View.{view}
use Rattle.list_json.specs.AliasPrinting.{prefix_data}
use Rattle.list_json.proofs.alias_writing.prefix_values.Given as goal

abbrev pub invariant-loop-prefix : goal.invariant-loop-prefix
invariant-loop-prefix l = map view l.values.items ≡ map prefix_data (take l.prefix-index l.prefixes)
