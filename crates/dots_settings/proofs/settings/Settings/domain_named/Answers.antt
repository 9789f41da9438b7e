use Rattle.std.proofs.Common.{subst}
use Rattle.dots_settings.specs.Settings.{IsSettings}
use Rattle.dots_settings.proofs.settings.Settings.domain_named.Goals as goal

pub returns-in_err-number-clause-valid : goal.returns-in_err-number-clause-valid
returns-in_err-number-clause-valid c = subst IsSettings c.self.view_is c.self.invariant

pub returns-clause-valid : goal.returns-clause-valid
returns-clause-valid c = subst IsSettings c.self.view_is c.self.invariant
