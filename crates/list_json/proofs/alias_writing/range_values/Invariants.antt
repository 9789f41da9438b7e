use Rattle.std.proofs.Common.{◌≡◌, map, take}
use Rattle.serde_json.specs.View.{view}
use Rattle.list_json.specs.AliasPrinting.{range_data}
use Rattle.list_json.proofs.alias_writing.range_values.Given as goal

abbrev pub invariant-loop-range : goal.invariant-loop-range
invariant-loop-range l = map view l.values.items ≡ map range_data (take l.range-index l.ranges)
