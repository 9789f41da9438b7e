use Rattle.std.proofs.Common.{◌≡◌, map, take}
use Rattle.held_resources.specs.Tables.{no_configuration}
use Rattle.held_resources.proofs.configurations.no_configurations.Given as goal

abbrev pub invariant-loop-row : goal.invariant-loop-row
invariant-loop-row l = l.configurations.items ≡ map no_configuration (take l.row-index l.peers)
