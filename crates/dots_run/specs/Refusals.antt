-- What is written in the end: where a disk isn't recovered, and of the last state.
use Rattle.std.specs.Prelude.{◌≡◌, ℕ, List, Option, ⊤}
use Rattle.dots_host.specs.Writing.{AppendsBeginning}
use Rattle.dots_settings.specs.Settings.{SettingsValue}
use Rattle.slot_journal.specs.declared.fault.JournalFault.TheVariants as faults
use Rattle.dots_machine.specs.declared.ending.Ending.{Ending}
use Rattle.dots_machine.specs.declared.ending.Ending.TheVariants as ending
use Rattle.dots_machine.specs.declared.ending.Stop.{Stop}
use Rattle.dots_machine.specs.declared.ending.Stop.TheVariants as stop
use Rattle.dots_machine.specs.Machine.{State}
use Rattle.dots_machine.specs.Outside.{Outside, ReportFailed}
use Rattle.dots_machine.specs.Report.{report_of}
use Rattle.dots_machine.specs.Endings.{WritesRefusal, IsSized, Reports}
use Rattle.dots_server.specs.Running.{FailsOnlyFor}

-- a restart may find a disk that isn't recovered
abbrev pub WritesStop : Stop → Option (List ℕ) → Option (List ℕ) → Type 0 → Type 0
WritesStop (stop.Unrecovered fault) old new failed = WritesRefusal fault old new failed
WritesStop _ old new failed = new ≡ old

-- what the report holds there, and how often the report, the wire and the disk failed
pub record Counts (outside : Outside) (holds : Option (List ℕ)) (of_report of_wire of_disk : ℕ) : Type 0 where
  pub written : outside.written ≡ holds
  pub report : outside.report_faults ≡ of_report
  pub wire : outside.wire_faults ≡ of_wire
  pub disk : outside.disk_faults ≡ of_disk

-- no call of the disk failed, unless the run ended for that
abbrev pub FailsOnly : Ending → ℕ → ℕ → Type 0
FailsOnly (ending.Served how) before now = FailsOnlyFor how before now
FailsOnly (ending.Unrecovered faults.DiskFault) before now = ⊤
FailsOnly _ before now = now ≡ before

-- a run that served had a disk of the size that its settings need
abbrev pub EndsSized : Ending → Type 0
EndsSized (ending.Served how) = IsSized how
EndsSized _ = ⊤

-- what was written of the last state of a run that stopped so, by its ending
abbrev pub Wrote : Ending → Stop → SettingsValue → State → Outside → Outside → Type 0
Wrote (ending.Served how) stopped settings state before now = (how ≡ stopped) × Reports how settings before now state
Wrote ending.ReportFailed stopped settings state before now =
    (stop.Ended ≡ stopped) × AppendsBeginning before.written now.written (report_of settings state) × ReportFailed before now
Wrote _ stopped settings state before now = ⊥
