-- How a run of a client ends, with which status, and what it has done then.
use Rattle.std.specs.Prelude.{◌≡◌, ℕ, ◌^◌, Bool, true, false, List, Option, Some, Ok, Err, IfSome}
use Rattle.std.specs.Io.KnownBytes.{Appends}
use Rattle.dots_host.specs.declared.event.Event.TheVariants as event
use Rattle.dots_host.specs.Acts.{Timed}
use Rattle.dots_host.specs.Causes.{Rose}
use Rattle.dots_host.specs.Runs.{Trace, resting, Added, GoOn, EndsBy, events_in}
use Rattle.dots_host.specs.Writing.{AppendsBeginning, Writes}
use Rattle.ask_agent.specs.declared.settings.AskSettings.{AskSettings}
use Rattle.ask_agent.specs.File.{meaning}
use Rattle.ask_agent.specs.declared.ending.AskEnding.{AskEnding}
use Rattle.ask_agent.specs.declared.ending.AskEnding.TheVariants as ending
use Rattle.ask_agent.specs.declared.firsts.Firsts.{Firsts}
use Rattle.ask_agent.specs.Asking.{AskState, step, start_of}
use Rattle.ask_agent.specs.Report.{report_of, refusal_line}

abbrev pub status_of : AskEnding → ℕ
status_of ending.Reported = 0
status_of ending.ReportFailed = 9
status_of ending.NextFailed = 5
status_of ending.TooMany = 11
status_of (ending.Refused line) = 3
status_of ending.SettingsFailed = 5
status_of ending.NoMemory = 4

-- whether such a run came to its wire
abbrev pub has_asked : AskEnding → Bool
has_asked (ending.Refused line) = false
has_asked ending.SettingsFailed = false
has_asked ending.NoMemory = false
has_asked _ = true

-- What stands around a run: what the settings' source has left, the acts of the wire, and what the report holds, where they tell it;
-- and how often each of the three failed.
pub record Around : Type 0 where
  pub left : Option (List ℕ)
  pub source_faults : ℕ
  pub acts : Option (List Timed)
  pub wire_faults : ℕ
  pub written : Option (List ℕ)
  pub report_faults : ℕ

-- what the source, the wire and the report say of themselves, in this order
abbrev pub around : Option (List ℕ) → ℕ → Option (List Timed) → ℕ → Option (List ℕ) → ℕ → Around
around left source_faults acts wire_faults written report_faults = record {
  left = left;
  source_faults = source_faults;
  acts = acts;
  wire_faults = wire_faults;
  written = written;
  report_faults = report_faults;
}

abbrev pub SourceFailed : Around → Around → Type 0
SourceFailed before now = Rose before.source_faults now.source_faults

abbrev pub WireFailed : Around → Around → Type 0
WireFailed before now = Rose before.wire_faults now.wire_faults

abbrev pub ReportFailed : Around → Around → Type 0
ReportFailed before now = Rose before.report_faults now.report_faults

-- The events stop so: End was taken last and no other, or a failure of the wire; or 2^40 were taken, and none is either.
abbrev pub Stops : AskEnding → List Timed → Type 0
Stops ending.Reported acts = EndsBy event.End acts
Stops ending.ReportFailed acts = EndsBy event.End acts
Stops ending.NextFailed acts = EndsBy event.Failed acts
Stops ending.TooMany acts = GoOn acts × (events_in acts ≡ 2 ^ 40)
Stops _ acts = ⊥

-- what was written of the last state, and what must have failed: the report where End came, or a beginning of it, and else nothing
abbrev pub Reports : AskEnding → Around → Around → AskState → Type 0
Reports ending.Reported before now state = Appends before.written now.written (report_of state)
Reports ending.ReportFailed before now state = AppendsBeginning before.written now.written (report_of state) × ReportFailed before now
Reports ending.NextFailed before now state = (now.written ≡ before.written) × WireFailed before now
Reports ending.TooMany before now state = now.written ≡ before.written
Reports _ before now state = ⊥

-- the acts are a run of the client's machine from the one state to the other, which stops so
pub record HasAsked (start : AskState) (how : AskEnding) (end : AskState) (acts : List Timed) : Type 0 where
  pub trace : List AskState
  pub run : Trace step (resting start) acts trace (resting end)
  pub stops : Stops how acts

-- A client ran from the one state to the other: where the wire tells its acts, they are a run of its machine; and what was written is
-- what the last state says.
pub record RanTo (start : AskState) (how : AskEnding) (before now : Around) (end : AskState) : Type 0 where
  pub run : Added before.acts now.acts (HasAsked start how end)
  pub reports : Reports how before now end

-- a client of these settings ran, or memory ran out before
abbrev pub Begins : AskSettings → Firsts → AskEnding → Around → Around → Type 0
Begins settings firsts ending.NoMemory before now = (now.acts ≡ before.acts) × (now.written ≡ before.written)
Begins settings firsts how before now = (end : AskState) × RanTo (start_of settings firsts) how before now end

-- What a run of this ending has done. Where it came to its wire, its settings are those of the file, where the source told its bytes.
abbrev pub Behaves : AskEnding → Firsts → Around → Around → Type 0
Behaves (ending.Refused line) firsts before now =
    (now.acts ≡ before.acts) × IfSome before.left (λ file. meaning file ≡ Err line) × Writes before.written now.written (refusal_line line) (ReportFailed before now)
Behaves ending.SettingsFailed firsts before now = (now.acts ≡ before.acts) × (now.written ≡ before.written) × SourceFailed before now
Behaves ending.NoMemory firsts before now = (now.acts ≡ before.acts) × (now.written ≡ before.written)
Behaves how firsts before now =
    (settings : AskSettings) × IfSome before.left (λ file. meaning file ≡ Ok settings) × (end : AskState) × RanTo (start_of settings firsts) how before now end

-- the source tells its bytes, and they give settings
pub record GivesSettings (left : Option (List ℕ)) : Type 0 where
  pub file : List ℕ
  pub told : left ≡ Some file
  pub settings : AskSettings
  pub are : meaning file ≡ Ok settings

-- the source tells its bytes, and a line of them is at fault
pub record GivesFault (left : Option (List ℕ)) : Type 0 where
  pub file : List ℕ
  pub told : left ≡ Some file
  pub line : ℕ
  pub at_fault : meaning file ≡ Err line
