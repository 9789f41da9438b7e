use Rattle.world_play.specs.Plans.{gateway_text}
use Rattle.world_play.proofs.run_plan.gateway_settings.Goals as goal

pub returns : goal.returns
unfolding gateway_text
returns c = c.settings_of.ensures
