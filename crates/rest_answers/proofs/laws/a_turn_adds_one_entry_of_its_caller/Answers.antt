use Rattle.rest_answers.proofs.Turning.{adds_one}
use Rattle.rest_answers.proofs.laws.a_turn_adds_one_entry_of_its_caller.Goals as goal

pub returns : goal.returns
returns c = adds_one
