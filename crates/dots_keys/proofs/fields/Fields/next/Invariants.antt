use Rattle.std.proofs.Common.{◌≡◌, length}
use Rattle.dots_keys.specs.FieldValues.{fields_left}
use Rattle.dots_keys.proofs.fields.Fields.next.Given as goal

abbrev pub invariant-loop-pair : goal.invariant-loop-pair
invariant-loop-pair l = fields_left l.self ≡ fields_left l.fn.self

abbrev pub decreases-loop-pair : goal.decreases-loop-pair
decreases-loop-pair l = length l.self.pairs.now
