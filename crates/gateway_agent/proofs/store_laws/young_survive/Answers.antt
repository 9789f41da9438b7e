use Rattle.gateway_agent.proofs.Strays.{young_survive}
use Rattle.gateway_agent.proofs.store_laws.young_survive.Goals as goal

pub returns : goal.returns
returns c = young_survive
