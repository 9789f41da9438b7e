use Rattle.std.proofs.Common.{append_assoc, append-nil, arith}
use Rattle.std.proofs.lemmas.Grind.{take_at_read, flat_map-append}
use Rattle.nft_script.proofs.rows.add_narrow.Goals as goal

pub loop-protocol-preserved : goal.loop-protocol-preserved
loop-protocol-preserved c = record { added = grind (arith, take_at_read, flat_map-append, append_assoc, append-nil) }
