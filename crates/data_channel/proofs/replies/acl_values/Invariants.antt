use Rattle.std.proofs.Common.{◌≡◌, map, take}
use Rattle.serde_json.specs.View.{view}
use Rattle.list_json.specs.ListPrinting.{acl_data}
use Rattle.data_channel.proofs.replies.acl_values.Given as goal

abbrev pub invariant-loop-acl : goal.invariant-loop-acl
invariant-loop-acl l = map view l.values.items ≡ map acl_data (take l.acl-index l.acls)
