use Rattle.std.proofs.Common.{append_assoc, append-nil, arith}
use Rattle.std.proofs.lemmas.Grind.{take_at_read, flat_map-append}
use Rattle.conflict_rules.proofs.targets.targets_of.Goals as goal

pub loop-name-preserved : goal.loop-name-preserved
loop-name-preserved c = record { so_far = grind (arith, take_at_read, flat_map-append, append_assoc, append-nil) }
