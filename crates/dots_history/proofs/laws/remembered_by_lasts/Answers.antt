use Rattle.dots_history.proofs.Remembering.{by_lasts}
use Rattle.dots_history.proofs.laws.remembered_by_lasts.Goals as goal

pub returns : goal.returns
returns c = by_lasts
