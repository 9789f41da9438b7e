use Rattle.std.proofs.Common.{◌≡◌, length}
use Rattle.dots_keys.specs.Fields.{each_field}
use Rattle.dots_keys.specs.FieldValues.{fields_left}
use Rattle.dots_keys.specs.Configurations.{config_field, no_config}
use Rattle.dots_keys.proofs.configuration.each_field.Given as goal

abbrev pub invariant-loop-key : goal.invariant-loop-key
invariant-loop-key l = each_field config_field l.said (fields_left l.fields) ≡ each_field config_field no_config (fields_left l.fn.fields)

abbrev pub decreases-loop-key : goal.decreases-loop-key
decreases-loop-key l = length (fields_left l.fields)
