use Rattle.dots_machine.proofs.Isolation.{run_isolated}
use Rattle.dots_machine.proofs.law.domains_are_isolated.Goals as goal

pub returns : goal.returns
returns c = run_isolated
