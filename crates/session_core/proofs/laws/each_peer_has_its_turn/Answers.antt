use Rattle.session_core.proofs.Ticking.{ticked}
use Rattle.session_core.proofs.laws.each_peer_has_its_turn.Goals as goal

pub returns : goal.returns
returns c = ticked
