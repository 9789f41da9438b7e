use Rattle.dots_load.proofs.Adding.{add_up}
use Rattle.dots_load.proofs.laws.counts_add_up.Goals as goal

pub returns : goal.returns
returns c = add_up
