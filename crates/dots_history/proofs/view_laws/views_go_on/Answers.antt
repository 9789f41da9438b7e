use Rattle.dots_history.proofs.Ageing.{ageing}
use Rattle.dots_history.proofs.GoingOn.{views_add, go_on}
use Rattle.dots_history.proofs.view_laws.views_go_on.Goals as goal

pub returns : goal.returns
returns c = record { ageing = ageing; adding = views_add; going_on = go_on }
