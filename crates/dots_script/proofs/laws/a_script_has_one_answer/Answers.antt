use Rattle.dots_script.proofs.OneAnswer.{one_answer}
use Rattle.dots_script.proofs.laws.a_script_has_one_answer.Goals as goal

pub returns : goal.returns
returns c = one_answer
