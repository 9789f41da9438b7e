use Rattle.std.proofs.Common.{arith}
use Rattle.live_mitigations.specs.LiveRows.{mitigations_in}
use Rattle.live_mitigations.proofs.Ends.{first_most}
use Rattle.live_mitigations.proofs.list.first_end.Goals as goal

pub loop-row-init : goal.loop-row-init
loop-row-init c = record { first = omega (arith, first_most (mitigations_in c.args.rows.now)); most = omega arith }
