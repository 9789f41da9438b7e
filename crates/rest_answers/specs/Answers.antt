-- What is answered to a request of the data channel, by what is known (RFC 8783, sections 5 to 7).
use Rattle.std.specs.Prelude.{◌≡◌, ◌⊎◌, ℕ, Bool, false, if◌then◌else◌, List, Option, Some, None, option_map, Result, Ok, Err}
use Rattle.acl_lists.specs.declared.alias.Alias.{Alias}
use Rattle.acl_lists.specs.declared.acl.Acl.{Acl}
use Rattle.dots_settings.specs.Settings.{SettingsValue}
use Rattle.dots_history.specs.declared.entry.Entry.{Entry}
use Rattle.dots_history.specs.declared.entry.MessageKey.TheVariants.{Http}
use Rattle.dots_history.specs.Fits.{is_of_mitigations}
use Rattle.dots_history.specs.Held.{alias_named, acl_named}
use Rattle.serde_json.specs.Written.{compact_text}
use Rattle.http_cut.specs.Requests.{Request}
use Rattle.data_channel.specs.declared.reject.RestReject.{RestReject}
use Rattle.data_channel.specs.declared.replies.RestBody.{RestBody}
use Rattle.data_channel.specs.declared.replies.RestBody.TheVariants as body
use Rattle.data_channel.specs.declared.request.RestRequest.{RestRequest}
use Rattle.data_channel.specs.declared.request.RestRequest.TheVariants as request
use Rattle.data_channel.specs.Replies.{body_data}
use Rattle.data_channel.specs.Rest.{Rest}
use Rattle.data_channel.specs.declared.decision.RestDecision.{RestDecision}
use Rattle.data_channel.specs.declared.decision.RestDecision.TheVariants.{Retrieved, Absent}
use Rattle.data_channel.specs.Asking.{verb_of, kind_of, cuid_of}
use Rattle.data_channel.specs.Decisions.{is_accepted}
use Rattle.data_channel.specs.Judging.{judge}
use Rattle.rest_answers.specs.declared.answer.RestAnswer.TheVariants as answer
use Rattle.rest_answers.specs.declared.caller.Caller.{Caller}
use Rattle.rest_answers.specs.Answer.{RestAnswer}
use Rattle.rest_answers.specs.Known.{Known, known_of}
use Rattle.rest_answers.specs.Changes.{entry_of}
use Rattle.rest_answers.specs.Replies.{content_reply, decision_reply, rejection, unavailable}

-- what a GET shows: the client with all that it has, one of its aliases or access lists, or all of a kind
abbrev pub body_of : RestRequest → List Alias → List Acl → Option RestBody
body_of (request.GetClient cuid) aliases acls = Some (body.Client cuid aliases acls)
body_of (request.GetAlias cuid name) aliases acls = option_map body.OneAlias (alias_named name aliases)
body_of (request.GetAliases cuid) aliases acls = Some (body.Aliases aliases)
body_of (request.GetAcl cuid name) aliases acls = option_map body.OneAcl (acl_named name acls)
body_of (request.GetAcls cuid) aliases acls = Some (body.Acls acls)
body_of _ aliases acls = None

-- it is shown where it is there
abbrev pub showing : Bool → RestRequest → Option RestBody → RestAnswer
showing close asked None = answer.Reply (decision_reply close asked Absent)
showing close asked (Some shown) = answer.LongReply (content_reply close (compact_text (body_data shown)))

-- a change is accepted with this reply
abbrev pub changing : List ℕ → Option Entry → RestAnswer
changing reply None = answer.Reply reply
changing reply (Some entry) = answer.Accept reply entry

-- what isn't accepted changes nothing
abbrev pub telling : Bool → RestRequest → Option RestBody → RestDecision → RestAnswer
telling close asked shown Retrieved = showing close asked shown
telling close asked shown decision = answer.Reply (decision_reply close asked decision)

abbrev pub by_decision : Known → Caller → Bool → RestRequest → RestDecision → RestAnswer
by_decision known caller close asked decision =
    if is_accepted decision
    then changing (decision_reply close asked decision) (entry_of known.time caller asked)
    else telling close asked (body_of asked known.aliases known.acls) decision

-- **what is answered to a request**, and whether the connection is closed behind it
abbrev pub rest_answer : Known → Caller → Bool → RestRequest → RestAnswer
rest_answer known caller close asked = by_decision known caller close asked (judge (verb_of asked) (kind_of asked) known.facts)

-- **what is answered to a message by a history at time t**: to what it asks, or to why it asks nothing
abbrev pub answer_to : SettingsValue → ℕ → List Entry → Caller → Bool → Result RestRequest RestReject → RestAnswer
answer_to settings t history caller close (Ok asked) = rest_answer (known_of settings t history caller asked) caller close asked
answer_to settings t history caller close (Err rejected) = answer.Reply (rejection close rejected)

-- an entry is of the caller and of the client that was asked for, at this time; it came by HTTP, and is of no mitigation
pub record IsOf (time : ℕ) (caller : Caller) (asked : RestRequest) (entry : Entry) : Type 0 where
  pub now : entry.time ≡ time
  pub peer : entry.peer ≡ caller.peer
  pub domain : entry.domain ≡ caller.domain
  pub cuid : entry.cuid ≡ cuid_of asked
  pub http : entry.key ≡ Http
  pub other : is_of_mitigations entry.change ≡ false

-- memory ran out: 500 is answered, and nothing changes
abbrev pub LacksMemory : Request → RestAnswer → Type 0
LacksMemory message answered = answered ≡ answer.Reply (unavailable message.close)

-- **what may be answered to a message**: what it means is answered by the history, or memory ran out
abbrev pub Answers : SettingsValue → ℕ → List Entry → Caller → Request → RestAnswer → Type 0
Answers settings t history caller message answered =
    ((read : Result RestRequest RestReject) × Rest message read × (answered ≡ answer_to settings t history caller message.close read))
    ⊎ LacksMemory message answered
