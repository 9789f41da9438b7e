use Rattle.std.proofs.Common.{◌≡◌, None}
use Rattle.dots_keys.specs.Options.{first_critical}
use Rattle.dots_keys.proofs.options.first_critical_of.Given as goal

abbrev pub invariant-loop-row : goal.invariant-loop-row
invariant-loop-row l = record { rest : first_critical l.previous l.options ≡ first_critical None l.fn.options }
