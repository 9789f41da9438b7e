-- What was written in the end, by how the events stopped.
use Rattle.std.proofs.Common.{◌≡◌, ℕ, List, Option, refl, sym, ◌∙◌, subst}
use Rattle.std.specs.Io.KnownBytes.{Appends}
use Rattle.dots_host.specs.Writing.{AppendsBeginning}
use Rattle.dots_host.specs.Causes.{Rose}
use Rattle.dots_settings.specs.Settings.{SettingsValue}
use Rattle.slot_journal.specs.declared.fault.JournalFault.{JournalFault}
use Rattle.slot_journal.specs.declared.fault.JournalFault.TheVariants as faults
use Rattle.dots_machine.specs.declared.ending.Ending.TheVariants as ending
use Rattle.dots_machine.specs.declared.ending.Stop.{Stop}
use Rattle.dots_machine.specs.declared.ending.Stop.TheVariants as stop
use Rattle.dots_machine.specs.Machine.{State}
use Rattle.dots_machine.specs.Outside.{Outside}
use Rattle.dots_machine.specs.Report.{report_of}
use Rattle.dots_machine.specs.Endings.{WritesRefusal}
use Rattle.dots_server.specs.Running.{StopsFor}
use Rattle.dots_run.specs.Refusals.{Counts, Wrote, WritesStop}

module _ (settings : SettingsValue) (state : State) (written written_now : Option (List ℕ)) (report report_now wire wire_now disk disk_now : ℕ) (before now : Outside)
    (at : Counts before written report wire disk) (then_at : Counts now written_now report_now wire_now disk_now) where
  -- the whole report was written
  pub wrote_all : Appends written written_now (report_of settings state) → Wrote (ending.Served stop.Ended) stop.Ended settings state before now
  wrote_all appends =
      (refl, subst (λ h. Appends h now.written (report_of settings state)) (sym at.written) (subst (λ h. Appends written h (report_of settings state)) (sym then_at.written) appends))

  -- a beginning of it, and the sink failed
  pub wrote_some : AppendsBeginning written written_now (report_of settings state) → Rose report report_now → Wrote ending.ReportFailed stop.Ended settings state before now
  wrote_some appends rose = (
    refl,
    subst (λ h. AppendsBeginning h now.written (report_of settings state)) (sym at.written) (subst (λ h. AppendsBeginning written h (report_of settings state)) (sym then_at.written) appends),
    subst (λ r. Rose r now.report_faults) (sym at.report) (subst (λ r. Rose report r) (sym then_at.report) rose),
  )

  still : written_now ≡ written → now.written ≡ before.written
  still same = then_at.written ∙ same ∙ sym at.written

  wire_rose : Rose wire wire_now → Rose before.wire_faults now.wire_faults
  wire_rose rose = subst (λ r. Rose r now.wire_faults) (sym at.wire) (subst (λ r. Rose wire r) (sym then_at.wire) rose)

  disk_rose : Rose disk disk_now → Rose before.disk_faults now.disk_faults
  disk_rose rose = subst (λ r. Rose r now.disk_faults) (sym at.disk) (subst (λ r. Rose disk r) (sym then_at.disk) rose)

  refusal_there : (fault : JournalFault) → WritesRefusal fault written written_now (Rose report report_now) → WritesRefusal fault before.written now.written (Rose before.report_faults now.report_faults)
  refusal_there fault wrote =
      subst (λ h. WritesRefusal fault h now.written (Rose before.report_faults now.report_faults)) (sym at.written)
      (subst (λ h. WritesRefusal fault written h (Rose before.report_faults now.report_faults)) (sym then_at.written)
      (subst (λ r. WritesRefusal fault written written_now (Rose r now.report_faults)) (sym at.report)
      (subst (λ r. WritesRefusal fault written written_now (Rose report r)) (sym then_at.report) wrote)))

  -- it stopped otherwise
  pub wrote_stop : (how : Stop) → StopsFor how (Rose wire wire_now) (Rose disk disk_now) → WritesStop how written written_now (Rose report report_now) → Wrote (ending.Served how) how settings state before now
  wrote_stop stop.Ended cause wrote = absurd cause
  wrote_stop stop.NextFailed cause wrote = (refl, (still wrote, wire_rose cause))
  wrote_stop stop.TooMany cause wrote = (refl, still wrote)
  wrote_stop stop.DiskFailed cause wrote = (refl, (still wrote, disk_rose cause))
  wrote_stop (stop.Unrecovered faults.DiskFault) cause wrote = (refl, (refusal_there faults.DiskFault wrote, disk_rose cause))
  wrote_stop (stop.Unrecovered faults.NoMemory) cause wrote = (refl, (refusal_there faults.NoMemory wrote, tt))
  wrote_stop (stop.Unrecovered (faults.NotOurs place)) cause wrote = (refl, (refusal_there (faults.NotOurs place) wrote, tt))
  wrote_stop (stop.Unrecovered (faults.SettingsChanged stored given)) cause wrote = (refl, (refusal_there (faults.SettingsChanged stored given) wrote, tt))
  wrote_stop (stop.Unrecovered (faults.TooSmall needed found)) cause wrote = (refl, (refusal_there (faults.TooSmall needed found) wrote, tt))
