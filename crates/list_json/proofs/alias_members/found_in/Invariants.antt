use Rattle.std.proofs.Common.{◌≡◌, ◌&&◌}
use Rattle.serde_json.specs.View.{members_view}
use Rattle.list_json.specs.Found.{IsAsBefore, nothing}
use Rattle.list_json.specs.Shapes.{may_have, only}
use Rattle.list_json.specs.declared.shape.Shape.TheVariants as shape
use Rattle.list_json.proofs.alias_members.found_in.Given as goal

abbrev pub invariant-loop-name : goal.invariant-loop-name
invariant-loop-name l =
    (only (may_have shape.Alias) (members_view l.members.entries) ≡ (l.found.is_whole && only (may_have shape.Alias) (members_view l.name-iterator)))
    × IsAsBefore nothing (members_view l.members.entries) l.found (members_view l.name-iterator)
