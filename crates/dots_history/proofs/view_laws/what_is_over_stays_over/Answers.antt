use Rattle.dots_history.proofs.Firsts.{one_first}
use Rattle.dots_history.proofs.Lasting.{ended_for_good, dead_for_good}
use Rattle.dots_history.proofs.view_laws.what_is_over_stays_over.Goals as goal

pub returns : goal.returns
returns c = record { ended = ended_for_good; dead = dead_for_good; first = one_first }
