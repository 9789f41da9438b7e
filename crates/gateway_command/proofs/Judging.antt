-- Settings that name no upstream, and those that do.
use Rattle.std.proofs.Common.{◌≡◌, ℕ, ◌+◌, List, true, Option, Some, None, inr, ap, subst}
use Rattle.std.specs.Prelude.{IfSome}
use Rattle.dots_settings.specs.declared.fault.SettingsFault.{SettingsFault}
use Rattle.dots_settings.specs.declared.fault.SettingsFault.TheVariants as fault
use Rattle.dots_settings.specs.File.{SettingsAre, IsNoLineFault}
use Rattle.dots_settings.specs.Settings.{SettingsValue}
use Rattle.dots_machine.specs.Outside.{Outside}
use Rattle.gateway_command.specs.declared.ending.CommandEnding.{CommandEnding}
use Rattle.gateway_command.specs.declared.ending.CommandEnding.TheVariants as ending
use Rattle.gateway_command.specs.Running.{has_hosted, LacksUpstream, IsAtFault, Runs, Behaves}

lacks : (file : List ℕ) (settings : SettingsValue) (why : SettingsFault) → settings.upstream ≡ None → why ≡ fault.Line (settings.lines + 1) → SettingsAre file settings → LacksUpstream file why
lacks file settings why none behind are = record {
  settings = settings;
  are = are;
  none = none;
  behind = subst (λ n. why ≡ fault.Line (n + 1)) (ap (λ (s : SettingsValue). s.lines) are.given) behind;
}

-- settings without an upstream
pub without : (left : Option (List ℕ)) (settings : SettingsValue) (why : SettingsFault) → settings.upstream ≡ None → why ≡ fault.Line (settings.lines + 1)
    → IfSome left (λ file. SettingsAre file settings) → IfSome left (λ file. IsAtFault file why)
without None settings why none behind told = tt
without (Some file) settings why none behind are = inr (lacks file settings why none behind are)

-- such a fault is one of a line
pub behind_is_line : (why : SettingsFault) (n : ℕ) → why ≡ fault.Line n → IsNoLineFault why → ⊥
behind_is_line why n is other = subst IsNoLineFault is other

-- a run that came to its host behaves as the gateway ran
pub behaves_hosted : (before now : Outside) (how : CommandEnding) → has_hosted how ≡ true → (settings : SettingsValue) → IfSome before.left (λ file. SettingsAre file settings)
    → (upstream : ℕ) → settings.upstream ≡ Some upstream → Runs how settings upstream before now → Behaves how before now
behaves_hosted before now (ending.Ran how) hosted settings are upstream named runs = (settings, are, upstream, named, runs)
behaves_hosted before now (ending.ReportFailed waiting) hosted settings are upstream named runs = (settings, are, upstream, named, runs)
behaves_hosted before now (ending.Refused fault) hosted settings are upstream named runs = absurd (cc hosted)
behaves_hosted before now ending.SettingsFailed hosted settings are upstream named runs = absurd (cc hosted)
behaves_hosted before now ending.NoMemory hosted settings are upstream named runs = absurd (cc hosted)
