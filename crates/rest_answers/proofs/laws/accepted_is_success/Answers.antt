use Rattle.rest_answers.proofs.Accepted.{accepted_succeeds, failure}
use Rattle.rest_answers.proofs.laws.accepted_is_success.Goals as goal

pub returns : goal.returns
returns c = record { accepted = accepted_succeeds; unavailable = failure }
