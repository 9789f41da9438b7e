use Rattle.std.proofs.Common.{arith}
use Rattle.std.proofs.lemmas.List.{drop_more, take_all, length-drop}
use Rattle.std.proofs.lemmas.Bool.Decides.{nat_tests}
use Rattle.dots_history.proofs.admission.live_of_domain.Goals as goal

pub loop-place-preserved : goal.loop-place-preserved
loop-place-preserved c = (grind arith, grind (arith, nat_tests, drop_more, take_all, length-drop))
