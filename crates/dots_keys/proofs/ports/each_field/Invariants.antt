use Rattle.std.proofs.Common.{◌≡◌, length}
use Rattle.dots_keys.specs.Fields.{each_field}
use Rattle.dots_keys.specs.FieldValues.{fields_left}
use Rattle.dots_keys.specs.Mitigations.{range_field, no_ports}
use Rattle.dots_keys.proofs.ports.each_field.Given as goal

abbrev pub invariant-loop-key : goal.invariant-loop-key
invariant-loop-key l = each_field range_field l.said (fields_left l.fields) ≡ each_field range_field no_ports (fields_left l.fn.fields)

abbrev pub decreases-loop-key : goal.decreases-loop-key
decreases-loop-key l = length (fields_left l.fields)
