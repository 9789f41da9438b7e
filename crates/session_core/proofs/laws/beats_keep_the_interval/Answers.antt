use Rattle.session_core.proofs.Spaced.{spaced}
use Rattle.session_core.proofs.laws.beats_keep_the_interval.Goals as goal

pub returns : goal.returns
returns c = spaced
