use Rattle.std.proofs.Common.{◌≡◌, take}
use Rattle.conflict_rules.proofs.targets.copy_of_targets.Given as goal

abbrev pub invariant-loop-target : goal.invariant-loop-target
invariant-loop-target l = record { so_far : l.copy ≡ take l.target-index l.targets }
