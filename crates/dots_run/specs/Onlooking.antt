-- What an onlooker has seen of a run.
use Rattle.std.specs.Prelude.{◌≡◌, ℕ, true, List, Option, IfSome}
use Rattle.dots_host.specs.Acts.{Timed}
use Rattle.dots_host.specs.Runs.{Owing, Added}
use Rattle.dots_settings.specs.Settings.{SettingsValue}
use Rattle.dots_settings.specs.File.{SettingsAre}
use Rattle.dots_history.specs.declared.entry.Entry.{Entry}
use Rattle.dots_history.specs.Fits.{is_calm}
use Rattle.dots_machine.specs.declared.ending.Ending.{Ending}
use Rattle.dots_machine.specs.declared.ending.Ending.TheVariants as ending
use Rattle.dots_machine.specs.declared.ending.Stop.{Stop}
use Rattle.dots_machine.specs.declared.ending.Stop.TheVariants as stop
use Rattle.dots_machine.specs.Machine.{State, begun_from}
use Rattle.dots_machine.specs.Endings.{IsKnown}
use Rattle.dots_machine.specs.Outside.{Outside}
use Rattle.dots_run.specs.Blocks.{seeing, RunsInBlocks}
use Rattle.dots_server.specs.ServerValues.{ServerValue}
use Rattle.dots_server.specs.Onlooking.{RunIsSeen}

-- A run that ended so has served events, which stopped in this way, and this was seen of them; or it has served none, and nothing was seen.
abbrev pub SawBy : Ending → (Stop → Type 0) → Type 0 → Type 0
SawBy (ending.Served how) saw unseen = saw how
SawBy ending.ReportFailed saw unseen = saw stop.Ended
SawBy _ saw unseen = unseen

-- From calm entries on, under these settings, the acts are a run of the machine that stops so; and at each tick of its whole events the onlooker saw
-- a server that represents the state after it, and nothing else.
pub record SawRun (settings : SettingsValue) (acts acts_now : Option (List Timed)) (how : Stop) (saw : List ServerValue → Type 0) : Type 0 where
  pub stored : List Entry
  pub calm : is_calm settings stored ≡ true
  pub trace : List State
  pub end : Owing State
  pub seen : List ServerValue
  pub has_seen : saw seen
  pub told : Added acts acts_now (RunIsSeen settings (begun_from settings stored) trace end how seen)

-- The settings are those that the source gives.
pub record Saw (before now : Outside) (how : Stop) (saw : List ServerValue → Type 0) : Type 0 where
  pub settings : SettingsValue
  pub given : IfSome before.left (λ bytes. SettingsAre bytes settings)
  pub run : SawRun settings before.acts now.acts how saw

-- So it is said of a run with this ending, where its acts are known.
abbrev pub SawWhereKnown : Ending → Outside → Outside → Type 0 → (List ServerValue → Type 0) → Type 0
SawWhereKnown how before now unseen saw = SawBy how (λ stopped. IsKnown before now → Saw before now stopped saw) unseen

-- A run from which long replies leave in blocks, before an onlooker: what that saw is said of the acts as they were seen above.
pub record ShowsInBlocks (words : List (List ℕ)) (status : ℕ) (before now : Outside) (uncalled unseen : Type 0) (saw : List ServerValue → Type 0) : Type 0 where
  pub runs : RunsInBlocks words status before now uncalled
  pub shown : SawWhereKnown runs.ending before (seeing now runs.seen) unseen saw
