use Rattle.std.proofs.Common.{◌≡◌, drop}
use Rattle.conflict_rules.specs.AskableTargets.{first_fault, destination_fault}
use Rattle.conflict_rules.proofs.scopes.first_destination_fault.Given as goal

abbrev pub invariant-loop-ace : goal.invariant-loop-ace
invariant-loop-ace l = record { rest : first_fault (destination_fault l.fn.domain) (drop l.ace-index l.aces) ≡ first_fault (destination_fault l.fn.domain) l.aces }
