use Rattle.std.proofs.Common.{append_assoc, append-nil, arith}
use Rattle.std.proofs.lemmas.Grind.{take_at_read}
use Rattle.std.proofs.lemmas.List.{map-append}
use Rattle.world_play.proofs.clients.begin_clients.Goals as goal

pub loop-client-preserved : goal.loop-client-preserved
loop-client-preserved c = record { made = grind (arith, take_at_read, map-append, append_assoc, append-nil) }
