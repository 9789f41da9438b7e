use Rattle.dots_settings.proofs.Sound.{given_settings}
use Rattle.dots_settings.proofs.laws.settings_are_whole.Goals as goal

pub returns : goal.returns
returns c = given_settings
