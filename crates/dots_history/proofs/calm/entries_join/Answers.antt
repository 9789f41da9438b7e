use Rattle.std.proofs.Common.{refl}
use Rattle.dots_history.proofs.CalmCuts.{calm_more, calm_parts}
use Rattle.dots_history.proofs.calm.entries_join.Goals as goal

pub returns : goal.returns
returns c = record { empty = λ settings. refl; more = calm_more; parts = calm_parts }
