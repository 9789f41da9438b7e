use Rattle.dots_history.proofs.CalmCuts.{one_registration}
use Rattle.dots_history.proofs.calm.clients_register_once.Goals as goal

pub returns : goal.returns
returns c = one_registration
