use Rattle.dots_history.proofs.Turning.{fold_turns}
use Rattle.dots_history.proofs.view_laws.turns_make_the_view.Goals as goal

pub returns : goal.returns
returns c = fold_turns
