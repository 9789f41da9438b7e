use Rattle.std.proofs.Common.{append_assoc, append-nil, arith}
use Rattle.std.proofs.lemmas.Grind.{take_at_read, flat_map-append}
use Rattle.nft_script.proofs.rows.add_ranged.Goals as goal

pub loop-range-preserved : goal.loop-range-preserved
loop-range-preserved c = record { added = grind (arith, take_at_read, flat_map-append, append_assoc, append-nil) }
