use Rattle.dots_run.proofs.Once.{one_text}
use Rattle.dots_run.proofs.laws.one_text.Goals as goal

pub returns : goal.returns
returns c = one_text
