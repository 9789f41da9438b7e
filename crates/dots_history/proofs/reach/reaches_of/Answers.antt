use Rattle.std.proofs.Common.{ap, sym, ◌∙◌}
use Rattle.dots_history.specs.declared.reach.Reaches.{Reaches}
use Rattle.dots_history.specs.Reach.{touches}
use Rattle.dots_history.proofs.Reaching.{met_targets}
use Rattle.dots_history.proofs.reach.reaches_of.Goals as goal

pub returns : goal.returns
returns c = λ p h. ap (touches p) c.over_targets.ensures ∙ met_targets p c.args.targets.now _ h
