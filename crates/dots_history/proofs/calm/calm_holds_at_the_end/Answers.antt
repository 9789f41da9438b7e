use Rattle.dots_history.proofs.CalmCuts.{calm_history, calm_at_end, calm_later}
use Rattle.dots_history.proofs.calm.calm_holds_at_the_end.Goals as goal

pub returns : goal.returns
returns c = record { history = calm_history; end = calm_at_end; later = calm_later }
