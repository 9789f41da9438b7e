use Rattle.std.proofs.Common.{◌≡◌, drop}
use Rattle.conflict_rules.specs.AskableTargets.{first_fault, prefix_fault}
use Rattle.conflict_rules.proofs.scopes.first_prefix_fault.Given as goal

abbrev pub invariant-loop-prefix : goal.invariant-loop-prefix
invariant-loop-prefix l = record { rest : first_fault (prefix_fault l.fn.domain) (drop l.prefix-index l.prefixes) ≡ first_fault (prefix_fault l.fn.domain) l.prefixes }
