use Rattle.dots_gateway.proofs.Answered.{is_answered_to}
use Rattle.dots_gateway.proofs.laws.answered_to.Goals as goal

pub returns : goal.returns
returns c = is_answered_to
