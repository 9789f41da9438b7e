use Rattle.std.proofs.Common.{[], refl}
use Rattle.dots_machine.specs.Machine.{begun_from, Step}
use Rattle.dots_world.proofs.Machine.{history_of, machine_serves}
use Rattle.dots_world.proofs.Over.{entries_asked}
use Rattle.dots_world.proofs.laws.entries_are_asked.Goals as goal

pub returns : goal.returns
returns c = λ plan events world is few r entry there. entries_asked plan is history_of (Step plan.settings) (machine_serves plan is) (begun_from plan.settings []) events world refl few r entry there
