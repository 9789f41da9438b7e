use Rattle.dots_edge.proofs.Histories.{last_is, get_is_last}
use Rattle.dots_edge.proofs.laws.the_last_counts.Goals as goal

pub returns : goal.returns
returns c = record { last = last_is; get = get_is_last }
