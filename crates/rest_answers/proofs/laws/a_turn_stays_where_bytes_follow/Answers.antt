use Rattle.rest_answers.proofs.Turning.{turn_stays}
use Rattle.rest_answers.proofs.laws.a_turn_stays_where_bytes_follow.Goals as goal

pub returns : goal.returns
returns c = turn_stays
