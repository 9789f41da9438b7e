use Rattle.dots_machine.proofs.OneAnswer.{one_answer as law_of}
use Rattle.dots_machine.proofs.law.one_answer.Goals as goal

pub returns : goal.returns
returns c = law_of
