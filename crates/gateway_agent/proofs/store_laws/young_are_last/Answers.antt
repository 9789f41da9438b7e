use Rattle.gateway_agent.proofs.Young.{are_end, few_later}
use Rattle.gateway_agent.proofs.store_laws.young_are_last.Goals as goal

pub returns-clause-last : goal.returns-clause-last
returns-clause-last c = are_end

pub returns-clause-few : goal.returns-clause-few
returns-clause-few c = few_later
