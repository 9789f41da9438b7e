use Rattle.dots_machine.proofs.Going.{found_again, ready_again}
use Rattle.dots_machine.proofs.law.runs_go_on.Goals as goal

pub returns : goal.returns
returns c = record {
  found = found_again;
  ready = ready_again;
}
