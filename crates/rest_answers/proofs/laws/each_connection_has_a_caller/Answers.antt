use Rattle.rest_answers.proofs.Turning.{connection_has_caller}
use Rattle.rest_answers.proofs.laws.each_connection_has_a_caller.Goals as goal

pub returns : goal.returns
returns c = connection_has_caller
