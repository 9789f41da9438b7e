use Rattle.std.proofs.Common.{append_assoc, append-nil, arith}
use Rattle.std.proofs.lemmas.Grind.{take_at_read, flat_map-append}
use Rattle.conflict_rules.proofs.marking.resolved.Goals as goal

pub loop-target-preserved : goal.loop-target-preserved
loop-target-preserved c = record { so_far = grind (arith, take_at_read, flat_map-append, append_assoc, append-nil) }
