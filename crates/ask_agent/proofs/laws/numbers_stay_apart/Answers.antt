use Rattle.ask_agent.proofs.Apart.{ids_apart, numbers_apart}
use Rattle.ask_agent.proofs.laws.numbers_stay_apart.Goals as goal

pub returns : goal.returns
returns c = record { ids = ids_apart; numbers = numbers_apart }
