use Rattle.dots_host.specs.Causes.{Rose}
use Rattle.dots_script.proofs.Accounting.{same_fault_stays}
use Rattle.dots_script.proofs.laws.a_fault_stays.Goals as goal

pub returns : goal.returns
returns c = λ text new event at before now. same_fault_stays text new event at (Rose before now)
