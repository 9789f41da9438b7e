use Rattle.dots_history.proofs.ViewLemmas.{dropping}
use Rattle.dots_history.proofs.Calmness.{kept_is_calm, none_revived}
use Rattle.dots_history.proofs.Counting.{few}
use Rattle.dots_history.proofs.view_laws.what_is_named_has_the_view.Goals as goal

pub returns : goal.returns
returns c = record { view = dropping; calm = kept_is_calm; lives = none_revived; few = few }
