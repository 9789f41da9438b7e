use Rattle.rest_answers.proofs.Turning.{turn_begins, first_send_fixes}
use Rattle.rest_answers.proofs.laws.first_send_fixes_a_turn.Goals as goal

pub returns : goal.returns
returns c = record { begins = turn_begins; fixes = first_send_fixes }
