-- A run that goes on, and one that stopped.
use Rattle.std.specs.Prelude.{◌≡◌, ◌⊎◌, ℕ, ◌≤◌, true, List, ◌++◌, length, Option, Result, Ok, Err, ⊤}
use Rattle.std.specs.List.{list_all}
use Rattle.dots_host.specs.Acts.{Timed}
use Rattle.dots_host.specs.Runs.{Owing, resting, Added, GoOn, events_in}
use Rattle.dots_host.specs.Media.{Media}
use Rattle.dots_settings.specs.Settings.{SettingsValue}
use Rattle.dots_history.specs.Calm.{is_own}
use Rattle.slot_journal.specs.declared.fault.JournalFault.TheVariants as fault
use Rattle.dots_machine.specs.declared.ending.Stop.{Stop}
use Rattle.dots_machine.specs.declared.ending.Stop.TheVariants as stop
use Rattle.dots_machine.specs.Machine.{State}
use Rattle.dots_history.specs.declared.entry.Entry.{Entry}
use Rattle.dots_machine.specs.Surviving.{Story, shown, past_of, NoneBefore, MeansAt, LeavesAt, Survives}
use Rattle.dots_machine.specs.Endings.{Ran, IsSettled, IsFound, NeverRestarts}
use Rattle.dots_server.specs.ServerValues.{ServerValue}

-- The acts are a run from the one state to the other, which tells this trace and goes on after this many events.
pub record RunsTo (settings : SettingsValue) (from to : State) (events : ℕ) (trace : List State) (acts : List Timed) : Type 0 where
  pub story : Story settings (resting from) acts trace (resting to)
  pub goes_on : GoOn acts
  pub count : events_in acts ≡ events

-- None of the acts came before the run; at no moment more entries were told than the history has; and so far a crash at any moment leaves what
-- it must.
pub record HasSurvived (settings : SettingsValue) (from to : State) (media media_now : Option Media) (trace : List State) (acts : List Timed) : Type 0 where
  pub later : NoneBefore (past_of media) acts
  pub bounded : (m : ℕ) → shown m acts trace (length from.history) ≤ length to.history
  pub survives : LeavesAt media media_now (MeansAt settings from acts trace to.history)

-- it is a run, and where the disk rested at its start it survived so far
abbrev pub GoesOnTo : SettingsValue → State → State → ℕ → Option Media → Option Media → Type 0 → List State → List Timed → Type 0
GoesOnTo settings from to events media media_now Rests trace acts = RunsTo settings from to events trace acts × (Rests → HasSurvived settings from to media media_now trace acts)

-- and the same of a run that has come to this end
abbrev pub HasCome : SettingsValue → State → Stop → Option Media → Option Media → Type 0 → List State → Owing State → List Timed → Type 0
HasCome settings from how media media_now Rests trace end acts =
    Ran settings from trace end how acts × (Rests → NoneBefore (past_of media) acts × Survives settings from media media_now acts trace end.last.history)

-- how the events stopped: End came, or something else
abbrev pub stop_of : Result ServerValue Stop → Stop
stop_of (Ok server) = stop.Ended
stop_of (Err how) = how

-- what must have failed where the events stop so, of the wire and of the disk; and it wasn't End
abbrev pub StopsFor : Stop → Type 0 → Type 0 → Type 0
StopsFor stop.Ended wire disk = ⊥
StopsFor stop.NextFailed wire disk = wire
StopsFor stop.TooMany wire disk = ⊤
StopsFor stop.DiskFailed wire disk = disk
StopsFor (stop.Unrecovered fault.DiskFault) wire disk = disk
StopsFor (stop.Unrecovered _) wire disk = ⊤

-- no call of the disk failed, unless the events stopped for that
abbrev pub FailsOnlyFor : Stop → ℕ → ℕ → Type 0
FailsOnlyFor stop.DiskFailed before now = ⊤
FailsOnlyFor (stop.Unrecovered fault.DiskFault) before now = ⊤
FailsOnlyFor _ before now = now ≡ before

-- the disk rested at the start of a run, or the acts of the run are told, and none is a restart
abbrev pub IsFollowed : Type 0 → Option (List Timed) → Option (List Timed) → Type 0
IsFollowed Rests acts acts_now = Rests ⊎ NeverRestarts acts acts_now

-- A run from a state has stopped so, in this end: its acts, where they are told, are a run of the machine, which survives a crash at any moment
-- where the disk rested at the start; the entries are the settings' own; and a restart found what had been left.
pub record Came (settings : SettingsValue) (from : State) (how : Stop) (media media_now : Option Media) (Rests : Type 0) (acts acts_now : Option (List Timed)) (end : Owing State) : Type 0 where
  pub settled : IsSettled how end
  pub trace : List State
  pub told : Added acts acts_now (HasCome settings from how media media_now Rests trace end)
  pub grows : (extra : List Entry) × (end.last.history ≡ from.history ++ extra)
  pub own : list_all (is_own settings) end.last.history ≡ true
  pub found : IsFound how
