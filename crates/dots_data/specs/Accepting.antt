-- When what is answered can be carried out.
use Rattle.std.specs.Prelude.{◌≡◌, ◌<◌, ◌^◌, true, List, ⊤}
use Rattle.dots_settings.specs.Settings.{SettingsValue}
use Rattle.dots_history.specs.declared.entry.Entry.{Entry}
use Rattle.dots_history.specs.Histories.{mitigations}
use Rattle.dots_history.specs.Calm.{is_own}
use Rattle.dots_history.specs.Fits.{has_one_peer}
use Rattle.dots_registry.specs.RegistryValues.{RegistryValue, Represents, time_of}
use Rattle.dots_registry.specs.Fitting.{fits_now}
use Rattle.dots_registry.specs.Limits.{ClientsKeepLimits}
use Rattle.rest_answers.specs.declared.answer.RestAnswer.TheVariants as answer
use Rattle.rest_answers.specs.declared.front.RestFront.TheVariants as front
use Rattle.rest_answers.specs.Answer.{RestAnswer}
use Rattle.rest_answers.specs.Turns.{RestFront}

-- A registry in use represents a history whose clients keep the limits, and its time is below 2^48.
pub record IsInUse (settings : SettingsValue) (registry : RegistryValue) : Type 0 where
  pub history : List Entry
  pub represents : Represents registry history
  pub limits : ClientsKeepLimits settings.limits (time_of registry) history
  pub early : time_of registry < 2 ^ 48

-- An entry can be taken: it is of the registry's time, and for each history that the registry represents it fits, is the settings' own,
-- and has the peer of each live mitigation of its client, where it is of mitigations.
pub record IsAcceptable (settings : SettingsValue) (registry : RegistryValue) (entry : Entry) : Type 0 where
  pub now : entry.time ≡ time_of registry
  pub fits : (history : List Entry) → Represents registry history → fits_now settings registry history entry ≡ true
  pub own : (history : List Entry) → Represents registry history → is_own settings entry ≡ true
  pub one_peer : (history : List Entry) → Represents registry history → has_one_peer entry (mitigations entry.time history) ≡ true

-- an accepted entry can be taken
abbrev pub CanCarryOut : SettingsValue → RegistryValue → RestAnswer → Type 0
CanCarryOut settings registry (answer.Accept reply entry) = IsAcceptable settings registry entry
CanCarryOut settings registry _ = ⊤

abbrev pub FrontCanBeCarriedOut : SettingsValue → RegistryValue → RestFront → Type 0
FrontCanBeCarriedOut settings registry (front.Answered size close answered) = CanCarryOut settings registry answered
FrontCanBeCarriedOut settings registry _ = ⊤
