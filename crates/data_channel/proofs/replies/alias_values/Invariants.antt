use Rattle.std.proofs.Common.{◌≡◌, map, take}
use Rattle.serde_json.specs.View.{view}
use Rattle.list_json.specs.AliasPrinting.{alias_data}
use Rattle.data_channel.proofs.replies.alias_values.Given as goal

abbrev pub invariant-loop-alias : goal.invariant-loop-alias
invariant-loop-alias l = map view l.values.items ≡ map alias_data (take l.alias-index l.aliases)
