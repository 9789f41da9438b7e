use Rattle.std.proofs.Common.{append_assoc, append-nil, arith}
use Rattle.std.proofs.lemmas.Grind.{take_at_read}
use Rattle.conflict_rules.proofs.targets.copy_of_targets.Goals as goal

pub loop-target-preserved : goal.loop-target-preserved
loop-target-preserved c = record { so_far = grind (arith, take_at_read, append_assoc, append-nil) }
