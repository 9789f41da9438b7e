use Rattle.dots_history.proofs.Bounding.{named_few}
use Rattle.dots_history.proofs.view_laws.capacities_bound_what_is_named.Goals as goal

pub returns : goal.returns
returns c = named_few
