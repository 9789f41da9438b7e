use Rattle.std.proofs.Common.{append_assoc, append-nil, arith}
use Rattle.std.proofs.lemmas.Grind.{take_at_read, flat_map-append}
use Rattle.host_checks.proofs.findings.add_no_addresses.Goals as goal

pub loop-row-preserved : goal.loop-row-preserved
loop-row-preserved c = record { added = grind (arith, take_at_read, flat_map-append, append_assoc, append-nil) }
