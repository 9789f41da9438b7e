use Rattle.std.proofs.Common.{◌≡◌, map, take}
use Rattle.dots_world.specs.Worlds.{new_client}
use Rattle.world_play.proofs.clients.begin_clients.Given as goal

abbrev pub invariant-loop-client : goal.invariant-loop-client
invariant-loop-client l = record { made : l.cores.items ≡ map new_client (take l.client-index l.clients) }
