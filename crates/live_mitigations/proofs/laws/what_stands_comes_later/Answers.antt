use Rattle.live_mitigations.proofs.LiveValues.{comes_later}
use Rattle.live_mitigations.proofs.laws.what_stands_comes_later.Goals as goal

pub returns : goal.returns
returns c = comes_later
