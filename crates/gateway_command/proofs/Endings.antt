-- What the status of a gateway's ending says of what must have failed.
use Rattle.std.proofs.Common.{◌≡◌, ℕ, ◌≤◌, ◌⊎◌, inl, inr, refl, arith}
use Rattle.slot_journal.specs.declared.fault.JournalFault.{JournalFault}
use Rattle.slot_journal.specs.declared.fault.JournalFault.TheVariants as faults
use Rattle.gateway_agent.specs.declared.stopping.GatewayHalt.TheVariants as halt
use Rattle.gateway_agent.specs.declared.stopping.GatewayEnding.{GatewayEnding}
use Rattle.gateway_agent.specs.declared.stopping.GatewayEnding.TheVariants as gateway
use Rattle.gateway_agent.specs.Running.{EndsFor, Completes}
use Rattle.dots_machine.specs.Endings.{recovery_status}
use Rattle.gateway_command.specs.declared.ending.CommandEnding.TheVariants as ending
use Rattle.gateway_command.specs.Running.{status_of}

-- the status of a disk that isn't recovered
late_status : (fault : JournalFault) → 4 ≤ recovery_status fault
late_status faults.NoMemory = omega arith
late_status faults.DiskFault = omega arith
late_status (faults.NotOurs at) = omega arith
late_status (faults.SettingsChanged stored given) = omega arith
late_status (faults.TooSmall needed found) = omega arith

no_five : (fault : JournalFault) → recovery_status fault ≡ 5 → ⊥
no_five faults.NoMemory is = omega (arith, is)
no_five faults.DiskFault is = omega (arith, is)
no_five (faults.NotOurs at) is = omega (arith, is)
no_five (faults.SettingsChanged stored given) is = omega (arith, is)
no_five (faults.TooSmall needed found) is = omega (arith, is)

no_nine : (fault : JournalFault) → recovery_status fault ≡ 9 → ⊥
no_nine faults.NoMemory is = omega (arith, is)
no_nine faults.DiskFault is = omega (arith, is)
no_nine (faults.NotOurs at) is = omega (arith, is)
no_nine (faults.SettingsChanged stored given) is = omega (arith, is)
no_nine (faults.TooSmall needed found) is = omega (arith, is)

-- it isn't one of words, or of settings
pub ran_late : (how : GatewayEnding) → 1 ≤ status_of (ending.Ran how) → 4 ≤ status_of (ending.Ran how)
ran_late (gateway.Ended waiting) some = absurd (omega (arith, some))
ran_late (gateway.Halted halt.NextFailed) some = omega arith
ran_late (gateway.Halted halt.DiskFailed) some = omega arith
ran_late (gateway.Halted halt.TooMany) some = omega arith
ran_late (gateway.Halted (halt.Unrecovered fault)) some = late_status fault
ran_late (gateway.Unopened fault) some = late_status fault

-- nor of the report
pub never_nine : (how : GatewayEnding) → status_of (ending.Ran how) ≡ 9 → ⊥
never_nine (gateway.Ended waiting) is = omega (arith, is)
never_nine (gateway.Halted halt.NextFailed) is = omega (arith, is)
never_nine (gateway.Halted halt.DiskFailed) is = omega (arith, is)
never_nine (gateway.Halted halt.TooMany) is = omega (arith, is)
never_nine (gateway.Halted (halt.Unrecovered fault)) is = no_nine fault is
never_nine (gateway.Unopened fault) is = no_nine fault is

module _ (wire disk : Type 0) where
  pub wire_failed : (how : GatewayEnding) → status_of (ending.Ran how) ≡ 5 → EndsFor how wire disk → wire
  wire_failed (gateway.Ended waiting) is failed = absurd (omega (arith, is))
  wire_failed (gateway.Halted halt.NextFailed) is failed = failed
  wire_failed (gateway.Halted halt.DiskFailed) is failed = absurd (omega (arith, is))
  wire_failed (gateway.Halted halt.TooMany) is failed = absurd (omega (arith, is))
  wire_failed (gateway.Halted (halt.Unrecovered fault)) is failed = absurd (no_five fault is)
  wire_failed (gateway.Unopened fault) is failed = absurd (no_five fault is)

  pub disk_failed : (how : GatewayEnding) → status_of (ending.Ran how) ≡ 6 → EndsFor how wire disk → disk
  disk_failed (gateway.Ended waiting) is failed = absurd (omega (arith, is))
  disk_failed (gateway.Halted halt.NextFailed) is failed = absurd (omega (arith, is))
  disk_failed (gateway.Halted halt.DiskFailed) is failed = failed
  disk_failed (gateway.Halted halt.TooMany) is failed = absurd (omega (arith, is))
  disk_failed (gateway.Halted (halt.Unrecovered faults.DiskFault)) is failed = failed
  disk_failed (gateway.Halted (halt.Unrecovered faults.NoMemory)) is failed = absurd (omega (arith, is))
  disk_failed (gateway.Halted (halt.Unrecovered (faults.NotOurs at))) is failed = absurd (omega (arith, is))
  disk_failed (gateway.Halted (halt.Unrecovered (faults.SettingsChanged stored given))) is failed = absurd (omega (arith, is))
  disk_failed (gateway.Halted (halt.Unrecovered (faults.TooSmall needed found))) is failed = absurd (omega (arith, is))
  disk_failed (gateway.Unopened faults.DiskFault) is failed = failed
  disk_failed (gateway.Unopened faults.NoMemory) is failed = absurd (omega (arith, is))
  disk_failed (gateway.Unopened (faults.NotOurs at)) is failed = absurd (omega (arith, is))
  disk_failed (gateway.Unopened (faults.SettingsChanged stored given)) is failed = absurd (omega (arith, is))
  disk_failed (gateway.Unopened (faults.TooSmall needed found)) is failed = absurd (omega (arith, is))

  abbrev pub EndsWell : ℕ → Type 0
  EndsWell status = (status ≡ 0) ⊎ (status ≡ 4) ⊎ (status ≡ 11)

  -- where nothing failed, and the disk wasn't refused for what it holds
  pub ran_well : (wire → ⊥) → (disk → ⊥) → (how : GatewayEnding) → Completes how → EndsFor how wire disk → EndsWell (status_of (ending.Ran how))
  ran_well came kept (gateway.Ended waiting) completes failed = inl refl
  ran_well came kept (gateway.Halted halt.NextFailed) completes failed = absurd (came failed)
  ran_well came kept (gateway.Halted halt.DiskFailed) completes failed = absurd (kept failed)
  ran_well came kept (gateway.Halted halt.TooMany) completes failed = inr (inr refl)
  ran_well came kept (gateway.Halted (halt.Unrecovered faults.NoMemory)) completes failed = inr (inl refl)
  ran_well came kept (gateway.Halted (halt.Unrecovered faults.DiskFault)) completes failed = absurd (kept failed)
  ran_well came kept (gateway.Halted (halt.Unrecovered (faults.NotOurs at))) completes failed = absurd completes
  ran_well came kept (gateway.Halted (halt.Unrecovered (faults.SettingsChanged stored given))) completes failed = absurd completes
  ran_well came kept (gateway.Halted (halt.Unrecovered (faults.TooSmall needed found))) completes failed = absurd completes
  ran_well came kept (gateway.Unopened faults.NoMemory) completes failed = inr (inl refl)
  ran_well came kept (gateway.Unopened faults.DiskFault) completes failed = absurd (kept failed)
  ran_well came kept (gateway.Unopened (faults.NotOurs at)) completes failed = absurd completes
  ran_well came kept (gateway.Unopened (faults.SettingsChanged stored given)) completes failed = absurd completes
  ran_well came kept (gateway.Unopened (faults.TooSmall needed found)) completes failed = absurd completes
