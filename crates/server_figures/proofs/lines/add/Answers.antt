use Rattle.std.proofs.Common.{append_assoc, append-nil, arith}
use Rattle.std.proofs.lemmas.Grind.{take_at_read, flat_map-append}
use Rattle.server_figures.proofs.lines.add.Goals as goal

pub loop-piece-preserved : goal.loop-piece-preserved
loop-piece-preserved c = record { added = grind (arith, take_at_read, flat_map-append, append_assoc, append-nil) }
