-- What a run of a gateway over real sockets and a real journal has done.
use Rattle.std.specs.Prelude.{◌≡◌, ℕ, List}
use Rattle.dots_edge.specs.Edge.{Edge}
use Rattle.dots_machine.specs.Outside.{Outside}
use Rattle.gateway_command.specs.Running.{NeverRestarts}
use Rattle.gateway_command.specs.Outcomes.{RunsGateway, GatewayOutcome}

-- A run of words that ask for a gateway, with this status, from what stood outside before to what stands there now, and from the host as it was to
-- what it is: what it has done, by the ending that its status is of; where it didn't come to its host, that was not called; no restart is among the
-- acts, so they are known; and what the status says of the words, of the settings and of what failed.
pub record PassesOver (words : List (List ℕ)) (status : ℕ) (before now : Outside) (first host : Edge) : Type 0 where
  pub runs : RunsGateway status before now (host ≡ first)
  pub known : NeverRestarts before.acts now.acts
  pub outcome : GatewayOutcome words status before now
