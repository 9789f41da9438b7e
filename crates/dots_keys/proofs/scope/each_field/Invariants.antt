use Rattle.std.proofs.Common.{◌≡◌, length}
use Rattle.dots_keys.specs.Fields.{each_field}
use Rattle.dots_keys.specs.FieldValues.{fields_left}
use Rattle.dots_keys.specs.Mitigations.{scope_field, nothing_asked}
use Rattle.dots_keys.proofs.scope.each_field.Given as goal

abbrev pub invariant-loop-said : goal.invariant-loop-said
invariant-loop-said l = each_field (scope_field l.gateway) l.said (fields_left l.fields) ≡ each_field (scope_field l.gateway) nothing_asked (fields_left l.fn.fields)

abbrev pub decreases-loop-said : goal.decreases-loop-said
decreases-loop-said l = length (fields_left l.fields)
