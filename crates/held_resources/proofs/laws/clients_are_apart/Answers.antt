use Rattle.dots_history.proofs.Written.{aliases_alone, acls_alone}
use Rattle.held_resources.proofs.Lawful.{registered_alone, registered_still, aliases_still, acls_still}
use Rattle.held_resources.proofs.laws.clients_are_apart.Goals as goal

pub returns : goal.returns
returns c = record {
  registered = registered_alone;
  aliases = aliases_alone;
  acls = acls_alone;
  still_registered = registered_still;
  same_aliases = aliases_still;
  same_acls = acls_still;
}
