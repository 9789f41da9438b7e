use Rattle.std.proofs.Common.{refl}
use Rattle.dots_load.specs.Draws.{high}
use Rattle.dots_load.proofs.Wrapping.{wrapped}
use Rattle.dots_load.proofs.draws.Draws.draw.Goals as goal

pub returns-clause-number : goal.returns-clause-number
returns-clause-number c = wrapped c.args.self.now.number

pub returns-clause-draw : goal.returns-clause-draw
unfolding high
returns-clause-draw c = refl
