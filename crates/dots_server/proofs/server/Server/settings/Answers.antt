use Rattle.std.proofs.Common.{subst}
use Rattle.dots_server.specs.ServerValues.{ServerValue}
use Rattle.dots_registry.specs.RegistryValues.{IsOf}
use Rattle.dots_server.proofs.server.Server.settings.Goals as goal

pub returns-clause-tables : goal.returns-clause-tables
returns-clause-tables c = subst (λ (server : ServerValue). IsOf server.settings server.registry) c.self.view_is c.self.invariant.represents.represents.is_of
