use Rattle.std.proofs.Common.{append_assoc, append-nil, arith}
use Rattle.std.proofs.lemmas.Grind.{take_at_read, flat_map-append}
use Rattle.nft_script.proofs.entries.add_entries.Goals as goal

pub loop-ace-preserved : goal.loop-ace-preserved
loop-ace-preserved c = record { added = grind (arith, take_at_read, flat_map-append, append_assoc, append-nil) }
