use Rattle.dots_world.proofs.Adding.{answers_add, step_adds}
use Rattle.dots_world.proofs.law.adds.Goals as goal

pub returns : goal.returns
returns c = record { answers = answers_add; step = step_adds }
