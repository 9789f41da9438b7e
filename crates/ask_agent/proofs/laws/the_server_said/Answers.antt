use Rattle.ask_agent.proofs.WasSaid.{all_said}
use Rattle.ask_agent.proofs.laws.the_server_said.Goals as goal

pub returns : goal.returns
returns c = all_said
