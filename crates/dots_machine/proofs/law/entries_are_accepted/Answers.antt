use Rattle.dots_machine.proofs.Adding.{handling_adds, run_adds}
use Rattle.dots_machine.proofs.law.entries_are_accepted.Goals as goal

pub returns : goal.returns
returns c = record { handling = handling_adds; run = run_adds }
