use Rattle.std.proofs.Common.{◌≡◌, take}
use Rattle.world_play.specs.Report.{granted_to}
use Rattle.world_play.proofs.report.granted_to.Given as goal

abbrev pub invariant-loop-client : goal.invariant-loop-client
invariant-loop-client l = record { counted : l.granted ≡ granted_to (take l.client-index l.clients) }
