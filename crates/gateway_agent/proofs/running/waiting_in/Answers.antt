use Rattle.std.proofs.Common.{◌∙◌}
use Rattle.gateway_agent.proofs.Joining.{all_wait}
use Rattle.gateway_agent.proofs.running.waiting_in.Goals as goal

pub returns : goal.returns
returns c = c.waiting.ensures.count ∙ all_wait c.args.core.now c.args.store.now c.requires
