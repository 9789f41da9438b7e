use Rattle.std.proofs.Common.{subst}
use Rattle.dots_settings.specs.Settings.{IsSettings}
use Rattle.dots_settings.proofs.settings.Settings.prefixes.Goals as goal

pub returns-clause-valid : goal.returns-clause-valid
returns-clause-valid c = subst IsSettings c.self.view_is c.self.invariant
