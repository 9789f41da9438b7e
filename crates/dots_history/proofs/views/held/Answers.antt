use Rattle.std.proofs.Common.{append_assoc, append-nil, arith}
use Rattle.std.proofs.lemmas.List.{drop_more, take_all, length-drop, map-append}
use Rattle.dots_history.proofs.views.held.Goals as goal

pub loop-place-preserved : goal.loop-place-preserved
loop-place-preserved c = grind (arith, drop_more, take_all, length-drop, map-append, append_assoc, append-nil)
