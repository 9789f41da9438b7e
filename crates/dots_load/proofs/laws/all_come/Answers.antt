use Rattle.dots_load.proofs.Coming.{all_come as law_of}
use Rattle.dots_load.proofs.laws.all_come.Goals as goal

pub returns : goal.returns
returns c = law_of
