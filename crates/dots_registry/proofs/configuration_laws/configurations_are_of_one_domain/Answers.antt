use Rattle.dots_registry.proofs.Configured.{configured_alone}
use Rattle.dots_registry.proofs.configuration_laws.configurations_are_of_one_domain.Goals as goal

pub returns : goal.returns
returns c = configured_alone
