use Rattle.rest_answers.proofs.Taken.{accepted_own, accepted_bounded, accepted_fits}
use Rattle.rest_answers.proofs.laws.accepted_is_own_and_fits.Goals as goal

pub returns : goal.returns
returns c = record { own = accepted_own; bounded = accepted_bounded; fits = accepted_fits }
