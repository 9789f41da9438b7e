-- What is known of a history at a time, where a request is decided on.
use Rattle.std.specs.Prelude.{◌≡◌, ℕ, Bool, true, false, ◌&&◌, ◌==◌, List, Option, Result}
use Rattle.std.specs.List.{list_any}
use Rattle.dots_settings.specs.Settings.{SettingsValue}
use Rattle.dots_history.specs.declared.entry.Entry.{Entry}
use Rattle.dots_history.specs.declared.put.Put.{Put}
use Rattle.dots_history.specs.Histories.{remembered}
use Rattle.dots_history.specs.Tables.{Client}
use Rattle.conflict_rules.specs.declared.fault.PutFault.{PutFault}
use Rattle.conflict_rules.specs.declared.judging.Judged.{Judged}
use Rattle.conflict_rules.specs.Requests.{Request}
use Rattle.conflict_rules.specs.LiveViews.{LiveView}
use Rattle.conflict_rules.specs.Statuses.{views_in, is_standing}
use Rattle.conflict_rules.specs.ByHistory.{collides, judge_request}
use Rattle.conflict_rules.specs.Judgements.{IsTaken, HasMid, IsJudged}
use Rattle.dots_machine.specs.MessageRepeats.{Sent, Repeats}
use Rattle.dots_machine.specs.ConfiguredPeers.{Configured, configured_in}

pub record Facts : Type 0 where
  pub time : ℕ
  -- the entry whose message is repeated by what was sent so
  pub repeated : Sent → Option Entry
  -- how a request for a domain is judged
  pub judged : ℕ → Request → Result Judged PutFault
  -- the client's name is in use by another peer than this one
  pub taken : Client → ℕ → Bool
  -- a mitigation of the client with this mid stands
  pub stands : Client → ℕ → Bool
  -- the client's live mitigations as a reader gets them, in order of their entries
  pub views : Client → List LiveView
  -- what a peer has configured for its session, in the domain in which it configures it
  pub configured : ℕ → ℕ → Option Configured

-- the test is whether this holds
abbrev pub IsTestOf : Bool → Type 0 → Type 0
IsTestOf true Claim = Claim
IsTestOf false Claim = ¬ Claim

-- The facts are those of the history at the time, by the places of its entries.
pub record AreFacts (settings : SettingsValue) (t : ℕ) (history : List Entry) (facts : Facts) : Type 0 where
  pub time : facts.time ≡ t
  pub repeated : (sent : Sent) → Repeats settings.limits.remembered t history sent (facts.repeated sent)
  pub judged : (domain : ℕ) (request : Request) → IsJudged settings t history (record { domain = domain; cuid = request.cuid }) request (facts.judged domain request)
  pub taken : (client : Client) (peer : ℕ) → IsTestOf (facts.taken client peer) (IsTaken t history client peer)
  pub stands : (client : Client) (mid : ℕ) → IsTestOf (facts.stands client mid) ((put : Put) × HasMid t history client mid put)
  pub views : (client : Client) → facts.views client ≡ views_in client.domain client.cuid t history
  pub configured : (domain peer : ℕ) → facts.configured domain peer ≡ configured_in history domain peer

-- it stands, and has this mid
abbrev pub stands_as : ℕ → LiveView → Bool
stands_as mid m = (m.put.mid == mid) && is_standing m.status

-- the same facts in the words of a registry's readers
abbrev pub facts_of : SettingsValue → ℕ → List Entry → Facts
facts_of settings t history = record {
  time = t;
  repeated = λ (sent : Sent). remembered settings.limits.remembered t sent.peer sent.domain sent.id history;
  judged = λ (domain : ℕ). λ (request : Request). judge_request settings t history domain request;
  taken = λ (client : Client). λ (peer : ℕ). collides t history peer client;
  stands = λ (client : Client). λ (mid : ℕ). list_any (stands_as mid) (views_in client.domain client.cuid t history);
  views = λ (client : Client). views_in client.domain client.cuid t history;
  configured = configured_in history;
}
