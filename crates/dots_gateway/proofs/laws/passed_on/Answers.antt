use Rattle.dots_gateway.proofs.PassedOn.{is_passed_on}
use Rattle.dots_gateway.proofs.laws.passed_on.Goals as goal

pub returns : goal.returns
returns c = is_passed_on
