use Rattle.rest_answers.proofs.Apart.{known_alike, turn_alike}
use Rattle.rest_answers.proofs.laws.a_turn_goes_by_its_domain.Goals as goal

pub returns : goal.returns
returns c = record { known = known_alike; turn = turn_alike }
