-- A run keeps the laws.
use Rattle.std.proofs.Common.{List}
use Rattle.dots_host.specs.Acts.{Timed}
use Rattle.dots_host.specs.Runs.{resting, Trace}
use Rattle.dots_settings.specs.Settings.{SettingsValue}
use Rattle.dots_machine.specs.Machine.{State, Step}
use Rattle.dots_machine.specs.Handlings.{handlings_of}
use Rattle.dots_machine.specs.Endings.{KeepsLaws}
use Rattle.dots_machine.proofs.Adding.{run_adds}
use Rattle.dots_machine.proofs.Isolation.{run_isolated}
use Rattle.dots_machine.proofs.Ordering.{run_orderly}
use Rattle.dots_machine.proofs.RepeatAnswers.{run_repeats}

pub keeps_laws : (settings : SettingsValue) (from : State) (acts : List Timed) (trace : List State) (new : State) → Trace (Step settings) (resting from) acts trace (resting new)
    → KeepsLaws settings from (handlings_of acts) new
keeps_laws settings from acts trace new run = record {
  adding = run_adds settings from acts trace new run;
  repeating = run_repeats settings from acts trace new run;
  isolated = λ domain. run_isolated settings domain from acts trace new run;
  orderly = λ orderly. run_orderly settings from acts trace new orderly run;
}
