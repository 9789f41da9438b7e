-- A client that asks once, at its first event, and ends by itself: when it is over, what became of the ask then, and what a run has done.
use Rattle.std.specs.Prelude.{◌≡◌, ℕ, ◌^◌, ◌⊎◌, Bool, true, false, ◌&&◌, nat_le, List, [], ◌∷◌, ◌++◌, length, codes, decimal, Option, Some, None, Result, Ok, Err}
use Rattle.std.specs.Fmt.{signed_decimal}
use Rattle.std.specs.Io.KnownBytes.{Appends}
use Rattle.coap_message.specs.MessageText.{code_text}
use Rattle.dots_host.specs.declared.event.Event.TheVariants as event
use Rattle.dots_host.specs.Acts.{Timed}
use Rattle.dots_host.specs.Causes.{Rose}
use Rattle.dots_host.specs.Runs.{Trace, resting, Added, GoOn, EndsBy, events_in}
use Rattle.dots_host.specs.Writing.{AppendsBeginning, Writes}
use Rattle.dots_client.specs.declared.granted.Granted.{Granted}
use Rattle.dots_client.specs.Client.{is_empty}
use Rattle.dots_host.specs.Stopping.{until}
use Rattle.ask_agent.specs.declared.settings_protecting.ProtectWord.{ProtectWord}
use Rattle.ask_agent.specs.declared.settings_protecting.ProtectWord.TheVariants as word
use Rattle.ask_agent.specs.declared.settings.AskSettings.{AskSettings}
use Rattle.ask_agent.specs.SettingsProtecting.{protect_settings}
use Rattle.ask_agent.specs.declared.firsts.Firsts.{Firsts}
use Rattle.ask_agent.specs.declared.protect_ending.ProtectEnding.{ProtectEnding}
use Rattle.ask_agent.specs.declared.protect_ending.ProtectEnding.TheVariants as ending
use Rattle.ask_agent.specs.declared.refusal.Refusal.{Refusal}
use Rattle.ask_agent.specs.declared.unsent.Unsent.{Unsent}
use Rattle.ask_agent.specs.declared.verdict.Verdict.{Verdict}
use Rattle.ask_agent.specs.declared.verdict.Verdict.TheVariants as verdict
use Rattle.ask_agent.specs.Asking.{AskState, step, start_of}
use Rattle.ask_agent.specs.Commands.{third_of, fourth_of, fifth_of, sixth_of}
use Rattle.ask_agent.specs.Running.{Around, WireFailed, ReportFailed}

-- ---- what became of the ask

-- all asks were reached, and no request waits for its answer
abbrev pub is_over : AskState → Bool
is_over state = nat_le (length state.asks) state.reached && is_empty state.client.waiting

abbrev pub verdict_by : List Unsent → List Granted → Option Refusal → Verdict
verdict_by (ask ∷ asks) rows refused = verdict.Unasked
verdict_by [] (row ∷ rows) refused = verdict.Granted row.mid row.lifetime
verdict_by [] [] (Some refusal) = verdict.Refused refusal.mid refusal.code
verdict_by [] [] None = verdict.NoAnswer

-- It wasn't sent, the server granted it, or the server refused it. Else no answer came.
abbrev pub verdict_of : AskState → Verdict
verdict_of state = verdict_by state.unsent state.client.ledger state.refused

-- `granted MID LIFETIME`, `refused MID C.DD` or `no answer`; nothing of an ask that wasn't sent
abbrev pub verdict_line : Verdict → List ℕ
verdict_line (verdict.Granted mid lifetime) = codes "granted " ++ decimal mid ++ codes " " ++ signed_decimal lifetime ++ codes "\n"
verdict_line (verdict.Refused mid code) = codes "refused " ++ decimal mid ++ codes " " ++ code_text code ++ codes "\n"
verdict_line verdict.NoAnswer = codes "no answer\n"
verdict_line verdict.Unasked = []

abbrev pub verdict_status : Verdict → ℕ
verdict_status (verdict.Granted mid lifetime) = 0
verdict_status (verdict.Refused mid code) = 12
verdict_status verdict.NoAnswer = 13
verdict_status verdict.Unasked = 4

-- ---- the words

-- the settings of `protect HOSTFILE SERVER NAME LIFETIME PREFIXES`, or the first word at fault
abbrev pub protected_by : List (List ℕ) → Result AskSettings ProtectWord
protected_by words = protect_settings (third_of words) (fourth_of words) (fifth_of words) (sixth_of words)

-- what is written of a word at fault
abbrev pub word_name : ProtectWord → List ℕ
word_name word.Server = codes "words SERVER\n"
word_name word.Name = codes "words NAME\n"
word_name word.Lifetime = codes "words LIFETIME\n"
word_name word.Prefixes = codes "words PREFIXES\n"

-- ---- a run

abbrev pub protect_status : ProtectEnding → ℕ
protect_status (ending.Judged said) = verdict_status said
protect_status ending.ReportFailed = 9
protect_status ending.NextFailed = 5
protect_status ending.TooMany = 11
protect_status (ending.WrongWord which) = 2
protect_status ending.NoMemory = 4

-- whether such a run came to its wire
abbrev pub has_protected : ProtectEnding → Bool
has_protected (ending.WrongWord which) = false
has_protected ending.NoMemory = false
has_protected _ = true

-- the client is over, and End didn't come; or End was taken last, and the client isn't over
abbrev pub IsDone : AskState → List Timed → Type 0
IsDone state acts = ((is_over state ≡ true) × GoOn acts) ⊎ ((is_over state ≡ false) × EndsBy event.End acts)

-- How the events stop. Where a failure of the wire was taken last, or 2^40 events were taken, the client isn't over.
abbrev pub StopsAt : ProtectEnding → AskState → List Timed → Type 0
StopsAt (ending.Judged said) state acts = IsDone state acts
StopsAt ending.ReportFailed state acts = IsDone state acts
StopsAt ending.NextFailed state acts = (is_over state ≡ false) × EndsBy event.Failed acts
StopsAt ending.TooMany state acts = (is_over state ≡ false) × GoOn acts × (events_in acts ≡ 2 ^ 40)
StopsAt _ state acts = ⊥

-- the acts are a run of the client's machine from the one state to the other, in which no event is taken once the client is over, and
-- which stops so
pub record HasProtected (start : AskState) (how : ProtectEnding) (end : AskState) (acts : List Timed) : Type 0 where
  pub trace : List AskState
  pub run : Trace (until is_over step) (resting start) acts trace (resting end)
  pub stops : StopsAt how end acts

-- what was written of the last state, and what must have failed: the line once, or a beginning of it, and else nothing
abbrev pub EndsAs : ProtectEnding → Around → Around → AskState → Type 0
EndsAs (ending.Judged said) before now state = (said ≡ verdict_of state) × Appends before.written now.written (verdict_line said)
EndsAs ending.ReportFailed before now state = AppendsBeginning before.written now.written (verdict_line (verdict_of state)) × ReportFailed before now
EndsAs ending.NextFailed before now state = (now.written ≡ before.written) × WireFailed before now
EndsAs ending.TooMany before now state = now.written ≡ before.written
EndsAs _ before now state = ⊥

-- the same of a report alone
abbrev pub ReportsVerdict : AskState → ProtectEnding → Option (List ℕ) → ℕ → Option (List ℕ) → ℕ → Type 0
ReportsVerdict state (ending.Judged said) old before new now = (said ≡ verdict_of state) × Appends old new (verdict_line said)
ReportsVerdict state ending.ReportFailed old before new now = AppendsBeginning old new (verdict_line (verdict_of state)) × Rose before now
ReportsVerdict state _ old before new now = ⊥

-- A client ran from the one state to the other: where the wire tells its acts, they are such a run of its machine; and what was written
-- is what the last state says.
pub record ProtectedTo (start : AskState) (how : ProtectEnding) (before now : Around) (end : AskState) : Type 0 where
  pub run : Added before.acts now.acts (HasProtected start how end)
  pub ends_as : EndsAs how before now end

-- a client of these settings ran, or memory ran out before
abbrev pub Protects : AskSettings → Firsts → ProtectEnding → Around → Around → Type 0
Protects settings firsts ending.NoMemory before now = (now.acts ≡ before.acts) × (now.written ≡ before.written)
Protects settings firsts how before now = (end : AskState) × ProtectedTo (start_of settings firsts) how before now end

-- What a run of these words and this ending has done. Where it came to its wire, its settings are those of the words.
abbrev pub HasDone : List (List ℕ) → ProtectEnding → Firsts → Around → Around → Type 0
HasDone words (ending.WrongWord which) firsts before now =
    (now.acts ≡ before.acts) × (protected_by words ≡ Err which) × Writes before.written now.written (word_name which) (ReportFailed before now)
HasDone words ending.NoMemory firsts before now = (now.acts ≡ before.acts) × (now.written ≡ before.written)
HasDone words how firsts before now =
    (settings : AskSettings) × (protected_by words ≡ Ok settings) × (end : AskState) × ProtectedTo (start_of settings firsts) how before now end

-- where a word is at fault the first such one is named, want of memory aside
abbrev pub NamesWord : List (List ℕ) → ProtectEnding → Type 0
NamesWord words how = (which : ProtectWord) → protected_by words ≡ Err which → (how ≡ ending.WrongWord which) ⊎ (how ≡ ending.NoMemory)

-- where no word is at fault and no call failed, what became of the ask is told, want of memory and 2^40 events aside
abbrev pub ReachesVerdict : List (List ℕ) → ProtectEnding → Around → Around → Type 0
ReachesVerdict words how before now = (settings : AskSettings) → protected_by words ≡ Ok settings → ¬ (WireFailed before now) → ¬ (ReportFailed before now)
    → ((said : Verdict) × (how ≡ ending.Judged said)) ⊎ ((how ≡ ending.NoMemory) ⊎ (how ≡ ending.TooMany))
