use Rattle.session_core.proofs.Ticking.{fewer_lost, fewer_beats}
use Rattle.session_core.proofs.laws.each_answer_leaves_fewer.Goals as goal

pub returns : goal.returns
returns c = record { lost = fewer_lost; beats = fewer_beats }
