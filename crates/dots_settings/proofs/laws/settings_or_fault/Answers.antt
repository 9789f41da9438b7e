use Rattle.dots_settings.proofs.OneFile.{one_settings, one_fault, no_settings_at_fault, neither}
use Rattle.dots_settings.proofs.laws.settings_or_fault.Goals as goal

pub returns : goal.returns
returns c = record {
  settings = one_settings;
  fault = one_fault;
  both = no_settings_at_fault;
  neither = neither;
}
