use Rattle.std.proofs.Common.{◌≡◌, drop}
use Rattle.conflict_rules.specs.AskableTargets.{first_fault, name_fault}
use Rattle.conflict_rules.proofs.scopes.first_name_fault.Given as goal

abbrev pub invariant-loop-name : goal.invariant-loop-name
invariant-loop-name l = record { rest : first_fault (name_fault l.fn.settings l.fn.domain) (drop l.name-index l.names) ≡ first_fault (name_fault l.fn.settings l.fn.domain) l.names }
