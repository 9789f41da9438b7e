use Rattle.std.proofs.Common.{[], refl}
use Rattle.dots_machine.specs.Machine.{begun_from, Step}
use Rattle.dots_world.specs.Once.{Finds}
use Rattle.dots_world.proofs.Machine.{history_of, machine_serves}
use Rattle.dots_world.proofs.Once.{one_entry}
use Rattle.dots_world.proofs.FoundEntries.{found_keeps}
use Rattle.dots_world.proofs.laws.an_ask_has_one_entry.Goals as goal

pub returns : goal.returns
returns c = λ plan a events world is few r there. one_entry plan is history_of (Step plan.settings) (machine_serves plan is) (Finds plan.settings) (found_keeps plan.settings) a (begun_from plan.settings []) events world refl few r there
