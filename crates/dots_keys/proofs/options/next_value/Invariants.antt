use Rattle.std.proofs.Common.{◌≡◌}
use Rattle.dots_keys.specs.Options.{values_of}
use Rattle.dots_keys.proofs.options.next_value.Given as goal

abbrev pub invariant-loop-row : goal.invariant-loop-row
invariant-loop-row l = record { rest : values_of l.number l.options ≡ values_of l.number l.fn.options }
