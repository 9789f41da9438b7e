use Rattle.std.proofs.Common.{◌≡◌}
use Rattle.serde_json.specs.View.{members_view}
use Rattle.list_json.specs.Shapes.{may_have, only}
use Rattle.list_json.proofs.shape.has_only.Given as goal

abbrev pub invariant-loop-name : goal.invariant-loop-name
invariant-loop-name l = only (may_have l.shape) (members_view l.fn.members.entries) ≡ only (may_have l.shape) (members_view l.name-iterator)
