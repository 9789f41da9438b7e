use Rattle.std.proofs.Common.{◌≡◌, length}
use Rattle.dots_keys.specs.Fields.{each_field}
use Rattle.dots_keys.specs.FieldValues.{fields_left}
use Rattle.dots_keys.specs.Configurations.{offer_field, no_offer}
use Rattle.dots_keys.proofs.offer.each_field.Given as goal

abbrev pub invariant-loop-key : goal.invariant-loop-key
invariant-loop-key l = each_field offer_field l.said (fields_left l.fields) ≡ each_field offer_field no_offer (fields_left l.fn.fields)

abbrev pub decreases-loop-key : goal.decreases-loop-key
decreases-loop-key l = length (fields_left l.fields)
