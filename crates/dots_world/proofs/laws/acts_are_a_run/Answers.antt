use Rattle.std.proofs.Common.{[]}
use Rattle.dots_machine.specs.Machine.{begun_from, Step}
use Rattle.dots_world.proofs.Acts.{acts_run}
use Rattle.dots_world.proofs.laws.acts_are_a_run.Goals as goal

pub returns : goal.returns
returns c = λ plan events world r acts same. acts_run (Step plan.settings) plan (begun_from plan.settings []) events world r acts same
