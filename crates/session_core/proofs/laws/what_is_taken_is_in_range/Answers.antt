use Rattle.session_core.proofs.Accepting.{taken}
use Rattle.session_core.proofs.laws.what_is_taken_is_in_range.Goals as goal

pub returns : goal.returns
returns c = taken
