use Rattle.rest_answers.proofs.Turning.{one_front, front_stays, front_has_size}
use Rattle.rest_answers.proofs.laws.one_thing_is_at_the_front.Goals as goal

pub returns : goal.returns
returns c = record { one = one_front; stays = front_stays; size = front_has_size }
