use Rattle.rest_answers.proofs.Accepted.{accepted_is_of}
use Rattle.rest_answers.proofs.laws.accepted_is_of_its_caller.Goals as goal

pub returns : goal.returns
returns c = accepted_is_of
