use Rattle.gateway_agent.proofs.Forms.{back, only}
use Rattle.gateway_agent.proofs.store_laws.one_form.Goals as goal

pub returns-clause-back : goal.returns-clause-back
returns-clause-back c = back

pub returns-clause-only : goal.returns-clause-only
returns-clause-only c = only
