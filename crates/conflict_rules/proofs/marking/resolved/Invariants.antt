use Rattle.std.proofs.Common.{◌≡◌, take}
use Rattle.conflict_rules.specs.ByOverlap.{resolved}
use Rattle.conflict_rules.proofs.marking.resolved.Given as goal

abbrev pub invariant-loop-target : goal.invariant-loop-target
invariant-loop-target l = record { so_far : l.prefixes ≡ resolved (take l.target-index l.targets) }
