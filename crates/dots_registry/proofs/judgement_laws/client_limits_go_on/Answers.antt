use Rattle.dots_registry.proofs.FittingEntries.{limits_empty, limits_later, limits_fitting, limits_calm}
use Rattle.dots_registry.proofs.judgement_laws.client_limits_go_on.Goals as goal

pub returns : goal.returns
returns c = record { empty = limits_empty; later = limits_later; fitting = limits_fitting; calm = limits_calm }
