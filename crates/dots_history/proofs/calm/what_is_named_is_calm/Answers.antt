use Rattle.dots_history.proofs.CalmCuts.{named_is_calm}
use Rattle.dots_history.proofs.calm.what_is_named_is_calm.Goals as goal

pub returns : goal.returns
returns c = named_is_calm
