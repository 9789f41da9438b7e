use Rattle.std.proofs.Common.{◌≡◌, map, take}
use Rattle.serde_json.specs.View.{view}
use Rattle.list_json.specs.AliasPrinting.{number_data}
use Rattle.list_json.proofs.alias_writing.protocol_values.Given as goal

abbrev pub invariant-loop-protocol : goal.invariant-loop-protocol
invariant-loop-protocol l = map view l.values.items ≡ map number_data (take l.protocol-index l.protocols)
