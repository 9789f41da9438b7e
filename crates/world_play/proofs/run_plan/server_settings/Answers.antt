use Rattle.world_play.specs.Plans.{server_text}
use Rattle.world_play.proofs.run_plan.server_settings.Goals as goal

pub returns : goal.returns
unfolding server_text
returns c = c.settings_of.ensures
