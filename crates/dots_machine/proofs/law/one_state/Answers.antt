use Rattle.dots_machine.proofs.OneState.{step_keeps_apart, one_state as law_of}
use Rattle.dots_machine.proofs.law.one_state.Goals as goal

pub returns : goal.returns
returns c = record { begun = λ settings entries t. tt; step = step_keeps_apart; one = law_of }
