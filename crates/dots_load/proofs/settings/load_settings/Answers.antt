use Rattle.dots_load.specs.Domains.{settings_text}
use Rattle.dots_load.proofs.settings.load_settings.Goals as goal

pub returns : goal.returns
unfolding settings_text
returns c = c.settings_of.ensures
