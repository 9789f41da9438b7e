use Rattle.std.proofs.Common.{arith}
use Rattle.std.proofs.lemmas.List.{drop_more, take_all, length-drop}
use Rattle.dots_history.proofs.admission.live_of_client.Goals as goal

pub loop-place-preserved : goal.loop-place-preserved
loop-place-preserved c = (grind arith, grind (arith, drop_more, take_all, length-drop))
