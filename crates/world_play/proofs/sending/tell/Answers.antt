use Rattle.std.proofs.Common.{append_assoc, append-nil, arith}
use Rattle.std.proofs.lemmas.Grind.{take_at_read, flat_map-append}
use Rattle.world_play.proofs.sending.tell.Goals as goal

pub loop-call-preserved : goal.loop-call-preserved
loop-call-preserved c = record { told = grind (arith, take_at_read, flat_map-append, append_assoc, append-nil) }
