-- Which endings are left where no call failed and the settings aren't at fault.
use Rattle.std.proofs.Common.{◌≡◌, ℕ, ◌⊎◌, inl, inr, Option, Ok, Err, refl, sym, ◌∙◌, subst}
use Rattle.std.specs.Prelude.{List, IfSome}
use Rattle.ask_agent.specs.declared.fault.AskSettingsFault.{AskSettingsFault}
use Rattle.ask_agent.specs.declared.fault.AskSettingsFault.TheVariants as fault
use Rattle.ask_agent.specs.declared.settings.AskSettings.{AskSettings}
use Rattle.ask_agent.specs.File.{IsRefused}
use Rattle.ask_agent.specs.declared.ending.AskEnding.{AskEnding}
use Rattle.ask_agent.specs.declared.ending.AskEnding.TheVariants as ending
use Rattle.ask_agent.specs.declared.firsts.Firsts.{Firsts}
use Rattle.ask_agent.specs.Running.{Around, WireFailed, ReportFailed, Begins, GivesSettings}

-- a run of a client that began
pub ends_well : (settings : AskSettings) (firsts : Firsts) (how : AskEnding) (before now : Around) → Begins settings firsts how before now → (WireFailed before now → ⊥) → (ReportFailed before now → ⊥)
    → (how ≡ ending.Reported) ⊎ ((how ≡ ending.NoMemory) ⊎ (how ≡ ending.TooMany))
ends_well settings firsts ending.Reported before now begun taken written = inl refl
ends_well settings firsts ending.ReportFailed before now (end, ran) taken written = absurd (written ran.reports.1)
ends_well settings firsts ending.NextFailed before now (end, ran) taken written = absurd (taken ran.reports.1)
ends_well settings firsts ending.TooMany before now begun taken written = inr (inr refl)
ends_well settings firsts (ending.Refused line) before now (end, ran) taken written = absurd ran.reports
ends_well settings firsts ending.SettingsFailed before now (end, ran) taken written = absurd ran.reports
ends_well settings firsts ending.NoMemory before now begun taken written = inr (inl refl)

ok_or_err : (settings : AskSettings) (line : ℕ) → Ok settings ≡ Err line → ⊥
ok_or_err settings line e = cc

-- a file gives settings or has a line at fault, and not both
pub no_line_at_fault : (left : Option (List ℕ)) (why : AskSettingsFault) (line : ℕ) → GivesSettings left → why ≡ fault.Line line → IfSome left (λ file. IsRefused file why) → ⊥
no_line_at_fault left why line given is refused =
    let faulty = subst (λ (told : Option (List ℕ)). IfSome told (λ file. IsRefused file why)) given.told refused in
    ok_or_err given.settings line (sym given.are ∙ subst (λ (cause : AskSettingsFault). IsRefused given.file cause) is faulty)
