use Rattle.gateway_agent.proofs.Surviving.{story_trace}
use Rattle.gateway_agent.proofs.laws.stories_are_runs.Goals as goal

pub returns : goal.returns
returns c = story_trace
