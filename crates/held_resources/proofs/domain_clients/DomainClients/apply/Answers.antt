use Rattle.std.proofs.Common.{ap}
use Rattle.dots_history.specs.Capacities.{is_registration}
use Rattle.held_resources.proofs.domain_clients.DomainClients.apply.Goals as goal

pub register-requires-clause-fresh : goal.register-requires-clause-fresh
unfolding is_registration
register-requires-clause-fresh c = c.requires.fresh (ap is_registration c.in-Register.is)
