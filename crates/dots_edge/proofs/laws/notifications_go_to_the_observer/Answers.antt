use Rattle.dots_edge.proofs.Histories.{recent_goes}
use Rattle.dots_edge.proofs.laws.notifications_go_to_the_observer.Goals as goal

pub returns : goal.returns
returns c = recent_goes
