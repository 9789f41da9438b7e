-- How a run ends, with which status, and what it has done then.
use Rattle.std.specs.Prelude.{◌≡◌, ◌≢◌, ℕ, ◌≤◌, ◌^◌, List, [], ◌∷◌, ◌++◌, Bool, true, false, codes, decimal, IfSome, Option, Some, ◌⊎◌, ⊤}
use Rattle.std.specs.Io.KnownBytes.{Appends}
use Rattle.dots_host.specs.declared.event.Event.{Event}
use Rattle.dots_host.specs.declared.event.Event.TheVariants as event
use Rattle.dots_host.specs.Acts.{WireAct, took, Timed}
use Rattle.dots_host.specs.Runs.{Owing, resting, Turn, owed_in, each_telling, outs_of, Added, GoOn, EndsBy, events_in}
use Rattle.dots_host.specs.Writing.{AppendsBeginning, Writes}
use Rattle.dots_settings.specs.declared.fault.SettingsFault.{SettingsFault}
use Rattle.dots_settings.specs.Settings.{SettingsValue, IsSettings}
use Rattle.dots_settings.specs.File.{SettingsAre, SettingsFail, IsNoLineFault}
use Rattle.dots_settings.specs.FaultText.{fault_text}
use Rattle.dots_host.specs.Media.{Media}
use Rattle.dots_host.specs.Becoming.{Leaves, RestsWith}
use Rattle.dots_host.specs.Beside.{KeepsActs}
use Rattle.slot_store.specs.Opening.{Is}
use Rattle.slot_store.specs.Gates.{Sees}
use Rattle.slot_store.specs.Layout.{needed_of}
use Rattle.slot_journal.specs.Sizes.{slots_of}
use Rattle.slot_journal.specs.declared.fault.JournalFault.{JournalFault}
use Rattle.slot_journal.specs.declared.fault.JournalFault.TheVariants as faults
use Rattle.slot_journal.specs.DiskEntries.{HasEntries}
use Rattle.dots_history.specs.declared.entry.Entry.{Entry}
use Rattle.dots_history.specs.Fits.{is_calm}
use Rattle.slot_journal.specs.Refused.{IsNoSize, IsSmallBy}
use Rattle.slot_journal.specs.Untaken.{RefusesLedger, IsFailure}
use Rattle.hex.specs.Hex.{encode_lower}
use Rattle.dots_lists.specs.HexText.{IsHex}
use Rattle.coap_message.specs.Message.{CoapMessage, IsMessage, spelling}
use Rattle.coap_message.specs.declared.printing.Printed.TheVariants as printed
use Rattle.coap_message.specs.Printing.{IsPrinted}
use Rattle.dots_machine.specs.declared.ending.Ending.{Ending}
use Rattle.dots_machine.specs.declared.ending.Ending.TheVariants as ending
use Rattle.dots_machine.specs.declared.ending.Printing.{Printing}
use Rattle.dots_machine.specs.declared.ending.Printing.TheVariants as printings
use Rattle.dots_machine.specs.declared.ending.Stop.{Stop}
use Rattle.dots_machine.specs.declared.ending.Stop.TheVariants as stop
use Rattle.dots_machine.specs.Commands.{is_served, is_show, is_command, second_of}
use Rattle.dots_machine.specs.Machine.{State, begun_from, StepInto}
use Rattle.dots_machine.specs.Handlings.{AreSends, Handling, EachHandling, handlings_of}
use Rattle.dots_machine.specs.Adding.{AddsExactly}
use Rattle.dots_machine.specs.RepeatAnswers.{AnswersRepeats}
use Rattle.dots_machine.specs.Isolation.{IsIsolated}
use Rattle.dots_machine.specs.Orderly.{IsOrderly}
use Rattle.dots_machine.specs.Surviving.{Story, shown_by, Survives}
use Rattle.dots_machine.specs.Outside.{Outside, SourceFailed, WireFailed, DiskFailed, ReportFailed}
use Rattle.dots_machine.specs.Report.{report_of, Contained}

-- that of a disk that isn't recovered
abbrev pub recovery_status : JournalFault → ℕ
recovery_status faults.NoMemory = 4
recovery_status faults.DiskFault = 6
recovery_status (faults.NotOurs at) = 7
recovery_status (faults.SettingsChanged stored given) = 8
recovery_status (faults.TooSmall needed found) = 10

abbrev pub status_of : Ending → ℕ
status_of (ending.Printed printings.Written) = 0
status_of (ending.Served stop.Ended) = 0
status_of (ending.Printed printings.Unreadable) = 1
status_of ending.WrongWords = 2
status_of (ending.Refused fault) = 3
status_of ending.NoMemory = 4
status_of ending.SettingsFailed = 5
status_of (ending.Served stop.NextFailed) = 5
status_of (ending.Served stop.DiskFailed) = 6
status_of ending.ReportFailed = 9
status_of (ending.Printed printings.Failed) = 9
status_of (ending.Served stop.TooMany) = 11
status_of (ending.Unrecovered fault) = recovery_status fault
status_of (ending.Served (stop.Unrecovered fault)) = recovery_status fault

-- whether such a run came to its host: it served, or it asked the host's disk at least
abbrev pub has_hosted : Ending → Bool
has_hosted (ending.Unrecovered fault) = true
has_hosted (ending.Served how) = true
has_hosted ending.ReportFailed = true
has_hosted _ = false

-- the line that a refusal of the settings prints
abbrev pub fault_line : SettingsFault → List ℕ
fault_line fault = fault_text fault ++ codes "\n"

-- the line that is printed of a disk that is refused for what it holds, and none where it failed or memory ran out
abbrev pub recovery_line : JournalFault → List ℕ
recovery_line (faults.TooSmall needed found) = codes "disk needed " ++ decimal needed ++ codes " found " ++ decimal found ++ codes "\n"
recovery_line (faults.NotOurs at) = codes "not ours " ++ decimal at ++ codes "\n"
recovery_line (faults.SettingsChanged stored given) = codes "settings changed " ++ encode_lower stored ++ codes " " ++ encode_lower given ++ codes "\n"
recovery_line faults.DiskFault = []
recovery_line faults.NoMemory = []

-- The events stop so: End was taken last and no other, or a failure of the host, or a restart, after which the disk wasn't recovered; or 2^40
-- were taken, or the disk failed, and none is End or a failure of the host.
abbrev pub Stops : Stop → List Timed → Type 0
Stops stop.Ended acts = EndsBy event.End acts
Stops stop.NextFailed acts = EndsBy event.Failed acts
Stops stop.TooMany acts = GoOn acts × (events_in acts ≡ 2 ^ 40)
Stops stop.DiskFailed acts = GoOn acts
Stops (stop.Unrecovered fault) acts = EndsBy event.Restart acts

-- The acts are those of an event in the middle of which the disk failed: it was taken, and the sends of the turns that were carried out were
-- given. What the turn owes that was being written was not.
pub record BreaksOff (settings : SettingsValue) (state : State) (trace : List State) (end : Owing State) (acts : List Timed) : Type 0 where
  pub moment : ℕ
  pub came : Event
  pub at : ℕ
  pub turns : List (Turn State)
  pub last : Turn State
  pub into : StepInto settings state came at turns last
  pub given : List Timed
  pub acts_are : acts ≡ (record { moment = moment; act = took came at }) ∷ given
  pub sent : AreSends (outs_of (owed_in turns)) given
  pub trace_is : trace ≡ last.left ∷ shown_by (owed_in turns)
  pub end_is : end ≡ record { last = last.left; owed = each_telling last.left last.sends }

-- what comes behind the whole events, by how they stop: one in which the disk failed, or nothing
abbrev pub EndsBehind : Stop → SettingsValue → State → List State → Owing State → List Timed → Type 0
EndsBehind stop.DiskFailed settings state trace end acts = BreaksOff settings state trace end acts
EndsBehind _ settings state trace end acts = (acts ≡ []) × (trace ≡ []) × (end ≡ resting state)

-- The acts stop so. Those of the whole events are a run of the machine with these settings from a state on. Behind them may come those of the
-- event in which the disk failed. They tell this trace, and this is owed in the end.
pub record Ran (settings : SettingsValue) (start : State) (trace : List State) (end : Owing State) (how : Stop) (acts : List Timed) : Type 0 where
  pub whole : List Timed
  pub behind : List Timed
  pub acts_are : acts ≡ whole ++ behind
  pub states : List State
  pub states_behind : List State
  pub trace_is : trace ≡ states ++ states_behind
  pub state : State
  pub run : Story settings (resting start) whole states (resting state)
  pub ends : EndsBehind how settings state states_behind end behind
  pub stops : Stops how acts

-- What holds of a run from the one state to the other, by what becomes of its events: each adds an entry exactly where the rules accept what came; each answers a
-- repeat as the message was answered; each domain is isolated; and the mitigations that stand in the end stand apart, where they did at the start.
pub record KeepsLaws (settings : SettingsValue) (start : State) (handlings : List Handling) (end : State) : Type 0 where
  pub adding : EachHandling (AddsExactly settings) start handlings end
  pub repeating : EachHandling (AnswersRepeats settings) start handlings end
  pub isolated : (domain : ℕ) → IsIsolated settings start handlings end domain
  pub orderly : IsOrderly start → IsOrderly end

-- whether the disk failed in the middle of an event, which may then owe sends
abbrev pub IsSettled : Stop → Owing State → Type 0
IsSettled stop.DiskFailed end = ⊤
IsSettled _ end = end.owed ≡ []

-- a restart is among the acts
abbrev pub IsRestart : WireAct → Type 0
IsRestart (took event.Restart at) = ⊤
IsRestart _ = ⊥

abbrev pub AnyRestart : List Timed → Type 0
AnyRestart [] = ⊥
AnyRestart (timed ∷ acts) = IsRestart timed.act ⊎ AnyRestart acts

-- The acts are told, and no restart was added to them.
abbrev pub NeverRestarts : Option (List Timed) → Option (List Timed) → Type 0
NeverRestarts (Some old) (Some new) = (more : List Timed) × (new ≡ old ++ more) × ¬ (AnyRestart more)
NeverRestarts _ _ = ⊥

-- A run is known from what its disk held. Where the disk isn't told, it is known from its acts, if no restart is among them: what a server recovers
-- at a restart is what the disk has.
pub data IsKnown (before now : Outside) : Type 0 where
  by_disk : (seen : ℕ → ℕ) → Sees before.media seen → IsKnown before now
  by_acts : NeverRestarts before.acts now.acts → IsKnown before now

-- a restart found what had been left: where it didn't, that was for want of memory or for a failure of the disk
abbrev pub IsFound : Stop → Type 0
IsFound (stop.Unrecovered fault) = IsFailure fault
IsFound _ = ⊤

-- a disk that wasn't recovered at a restart wasn't refused for its size
abbrev pub IsSized : Stop → Type 0
IsSized (stop.Unrecovered fault) = IsNoSize fault
IsSized _ = ⊤

-- What is said of the acts of a server with these settings that began from a state: they are a run of the machine, which owes nothing in the
-- end, but where the disk failed in the middle of an event; its whole events keep the laws, however it ends; and where nothing was pending on
-- the disk at the start, a crash at any moment leaves a disk that means a front of the history, with all that was told before.
pub record HasRun (settings : SettingsValue) (start : State) (how : Stop) (before now : Outside) (trace : List State) (end : Owing State) (acts : List Timed) : Type 0 where
  pub ran : Ran settings start trace end how acts
  pub laws : KeepsLaws settings start (handlings_of ran.whole) ran.state
  pub survives : (seen : ℕ → ℕ) → RestsWith before.media (Is seen) → Survives settings start before.media now.media acts trace end.last.history

-- A run from these entries: the acts are a run of the machine from there; at a restart the disk isn't refused; each
-- filter of the last state lies inside the domain of the request that made it; and it wrote of this state what it says.
pub record RunsFrom (settings : SettingsValue) (stored : List Entry) (how : Stop) (before now : Outside) (wrote : State → Type 0) : Type 0 where
  pub end : Owing State
  pub settled : IsSettled how end
  pub found : IsFound how
  pub trace : List State
  pub has_run : Added before.acts now.acts (HasRun settings (begun_from settings stored) how before now trace end)
  pub contained : Contained settings end.last
  pub reports : wrote end.last

-- A server with these settings has served: it recovered calm entries, which are what the disk held, where it is told; and then its acts are a
-- run from them, where the disk is told, or where the acts are and none is a restart. For every host it wrote of some state what it says, and
-- each filter of that state lies inside the domain of its request.
pub record Serves (settings : SettingsValue) (how : Stop) (before now : Outside) (wrote : State → Type 0) : Type 0 where
  pub stored : List Entry
  pub calm : is_calm settings stored ≡ true
  pub was_stored : (seen : ℕ → ℕ) → Sees before.media seen → HasEntries settings seen stored
  pub runs_from : IsKnown before now → RunsFrom settings stored how before now wrote
  pub sized : IsSized how
  pub any : (state : State) × Contained settings state × wrote state

-- where a disk is refused for what it holds its line is written, the whole of it or, where the sink failed, a beginning; and nothing where the
-- disk failed or memory ran out
abbrev pub WritesRefusal : JournalFault → Option (List ℕ) → Option (List ℕ) → Type 0 → Type 0
WritesRefusal faults.DiskFault old new failed = new ≡ old
WritesRefusal faults.NoMemory old new failed = new ≡ old
WritesRefusal refusal old new failed = Writes old new (recovery_line refusal) failed

-- the disk failed, where that is the fault
abbrev pub IsDiskFailure : JournalFault → Outside → Outside → Type 0
IsDiskFailure faults.DiskFault before now = DiskFailed before now
IsDiskFailure _ before now = ⊤

-- what was written of the last state: the machine's report where End came, and else nothing but why a disk isn't recovered; and what must have
-- failed
abbrev pub Reports : Stop → SettingsValue → Outside → Outside → State → Type 0
Reports stop.Ended settings before now state = Appends before.written now.written (report_of settings state)
Reports stop.NextFailed settings before now state = (now.written ≡ before.written) × WireFailed before now
Reports stop.TooMany settings before now state = now.written ≡ before.written
Reports stop.DiskFailed settings before now state = (now.written ≡ before.written) × DiskFailed before now
Reports (stop.Unrecovered fault) settings before now state = WritesRefusal fault before.written now.written (ReportFailed before now) × IsDiskFailure fault before now

-- The disk isn't recovered under the settings, and no event is taken: for this cause, by its size and what it held; where it held entries and
-- nothing was pending, it holds them at each moment, and else it stays as it was, unless a call of it failed.
pub record Unrecovers (settings : SettingsValue) (fault : JournalFault) (before now : Outside) : Type 0 where
  pub silent : KeepsActs before.acts now.acts
  pub cause : (seen : ℕ → ℕ) → Sees before.media seen → RefusesLedger settings before.extent seen now.media fault
  pub moments : (seen : ℕ → ℕ) (entries : List Entry) → RestsWith before.media (Is seen) → HasEntries settings seen entries
      → Leaves before.media now.media (λ image. HasEntries settings image entries)
  pub unwritten : (seen : ℕ → ℕ) → fault ≢ faults.DiskFault → RestsWith before.media (Is seen) → RestsWith now.media (Is seen) ⊎ ((entries : List Entry) × HasEntries settings seen entries)
  pub valid : IsSettings settings
  pub small : IsSmallBy settings before.extent fault
  pub failed : IsDiskFailure fault before now
  pub refusal : WritesRefusal fault before.written now.written (ReportFailed before now)

-- How a run that came to its host served: the disk wasn't recovered; or the whole report is written, or a beginning of it.
abbrev pub ServesTo : Ending → SettingsValue → Outside → Outside → Type 0
ServesTo (ending.Served how) settings before now = Serves settings how before now (Reports how settings before now)
ServesTo ending.ReportFailed settings before now =
    Serves settings stop.Ended before now (λ state. AppendsBeginning before.written now.written (report_of settings state)) × ReportFailed before now
ServesTo (ending.Unrecovered fault) settings before now = Unrecovers settings fault before now
ServesTo _ settings before now = ⊥

-- what was written of a word that was to be shown
abbrev pub Prints : Printing → List ℕ → Option (List ℕ) → Option (List ℕ) → Type 0 → Type 0
Prints printings.Written word old new failed = (text : List ℕ) × IsPrinted word (printed.Message text) × Appends old new text
Prints printings.Failed word old new failed = (text : List ℕ) × IsPrinted word (printed.Message text) × AppendsBeginning old new text × failed
Prints printings.Unreadable word old new failed = (text : List ℕ) × IsPrinted word (printed.Fault text) × Writes old new text failed

-- What a run of this ending has done with these words. Where it didn't come to serve, the host told no act; where it came to its host, its
-- settings are those of the file, where the source told its bytes.
abbrev pub Behaves : Ending → List (List ℕ) → Outside → Outside → Type 0
Behaves ending.WrongWords words before now =
    (is_command words ≡ false) × (now.acts ≡ before.acts) × Writes before.written now.written (codes "words\n") (ReportFailed before now)
Behaves (ending.Printed how) words before now =
    (is_show words ≡ true) × (now.acts ≡ before.acts) × Prints how (second_of words) before.written now.written (ReportFailed before now)
Behaves (ending.Refused fault) words before now =
    (is_served words ≡ true) × (now.acts ≡ before.acts) × ¬ (IsNoLineFault fault) × IfSome before.left (λ bytes. SettingsFail bytes fault)
    × Writes before.written now.written (fault_line fault) (ReportFailed before now)
Behaves ending.SettingsFailed words before now = (is_served words ≡ true) × (now.acts ≡ before.acts) × (now.written ≡ before.written) × SourceFailed before now
Behaves ending.NoMemory words before now = (is_command words ≡ true) × (now.acts ≡ before.acts) × (now.written ≡ before.written)
Behaves served words before now =
    (is_served words ≡ true) × (settings : SettingsValue) × IfSome before.left (λ bytes. SettingsAre bytes settings) × ServesTo served settings before now

-- the word is hexadecimal and writes the spelling of a message
pub record IsReadable (word : List ℕ) : Type 0 where
  pub message : CoapMessage
  pub is : IsMessage message
  pub writes : IsHex word (spelling message)

-- the source tells its bytes, and they give settings
pub record GivesSettings (left : Option (List ℕ)) : Type 0 where
  pub bytes : List ℕ
  pub told : left ≡ Some bytes
  pub settings : SettingsValue
  pub are : SettingsAre bytes settings

-- the source gives settings; and the disk is told, has the size that they need, and holds calm entries under them
pub record IsReady (left : Option (List ℕ)) (media : Option Media) (extent : ℕ) : Type 0 where
  pub gives : GivesSettings left
  pub seen : ℕ → ℕ
  pub sees : Sees media seen
  pub stored : List Entry
  pub image_has : HasEntries gives.settings seen stored
  pub calm : is_calm gives.settings stored ≡ true
  pub large : needed_of (slots_of gives.settings) ≤ extent

-- the source tells its bytes, and they are at fault
pub record GivesFault (left : Option (List ℕ)) : Type 0 where
  pub bytes : List ℕ
  pub told : left ≡ Some bytes
  pub fault : SettingsFault
  pub fails : SettingsFail bytes fault
