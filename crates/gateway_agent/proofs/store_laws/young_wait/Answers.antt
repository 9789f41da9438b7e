use Rattle.gateway_agent.proofs.Waiting.{young_wait}
use Rattle.gateway_agent.proofs.store_laws.young_wait.Goals as goal

pub returns : goal.returns
returns c = young_wait
