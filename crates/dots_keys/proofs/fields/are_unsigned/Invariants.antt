use Rattle.std.proofs.Common.{◌≡◌, length}
use Rattle.dots_keys.specs.Fields.{all_unsigned}
use Rattle.dots_keys.specs.FieldValues.{pairs_seen}
use Rattle.dots_keys.proofs.fields.are_unsigned.Given as goal

abbrev pub invariant-loop-pair : goal.invariant-loop-pair
invariant-loop-pair l = all_unsigned (pairs_seen l.rest) ≡ all_unsigned (pairs_seen l.pairs)

abbrev pub decreases-loop-pair : goal.decreases-loop-pair
decreases-loop-pair l = length l.rest
