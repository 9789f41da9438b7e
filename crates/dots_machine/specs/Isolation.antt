-- What becomes of a domain over a whole run.
use Rattle.std.specs.Prelude.{◌≡◌, ◌≢◌, ◌⊎◌, ℕ, List, [], ◌∷◌, ◌++◌, map, Option, Some, Result}
use Rattle.dots_host.specs.declared.event.Event.{Event}
use Rattle.dots_host.specs.declared.event.Event.TheVariants as event
use Rattle.dots_host.specs.declared.out.OwnedOut.{OwnedOut}
use Rattle.dots_host.specs.declared.out.OwnedOut.TheVariants as owned
use Rattle.dots_host.specs.Runs.{Turn, Chain, owed_in, outs_of}
use Rattle.dots_settings.specs.Settings.{SettingsValue}
use Rattle.dots_settings.specs.Lookups.{role_of}
use Rattle.dots_history.specs.declared.entry.Entry.{Entry}
use Rattle.stream_table.specs.Lines.{Line, line_of}
use Rattle.http_cut.specs.declared.fault.HttpFault.{HttpFault}
use Rattle.http_cut.specs.Requests.{Request as HttpRequest, takes, refuses, IsCut}
use Rattle.data_channel.specs.declared.request.RestRequest.{RestRequest}
use Rattle.data_channel.specs.declared.reject.RestReject.{RestReject}
use Rattle.data_channel.specs.Rest.{Rest}
use Rattle.rest_answers.specs.declared.caller.Caller.{Caller}
use Rattle.rest_answers.specs.Answer.{RestAnswer}
use Rattle.rest_answers.specs.Answers.{answer_to as http_answer}
use Rattle.rest_answers.specs.Turns.{caller_of, reply_in, closing, entries_in}
use Rattle.dots_keys.specs.declared.reject.Reject.{Reject}
use Rattle.dots_keys.specs.declared.request.Request.{Request}
use Rattle.dots_keys.specs.declared.exchange.Exchange.{Exchange}
use Rattle.dots_machine.specs.declared.received.Received.TheVariants as received
use Rattle.dots_machine.specs.Verdict.{Verdict}
use Rattle.dots_machine.specs.declared.verdict.Verdict.TheVariants as verdict
use Rattle.dots_machine.specs.Domains.{is_gateway}
use Rattle.dots_machine.specs.Requests.{IsReceived}
use Rattle.dots_machine.specs.Machine.{State, afresh, later, DecidesRequest, sends_of, AnswersFront, receiving}
use Rattle.dots_machine.specs.Apart.{domain_of, AsksFor}
use Rattle.dots_machine.specs.Answering.{SaysUnavailable}
use Rattle.dots_machine.specs.Adding.{SaysFailed}
use Rattle.dots_machine.specs.Handlings.{Handling, IsHandling}
use Rattle.dots_machine.specs.Signals.{own_domain}
use Rattle.dots_machine.specs.Parts.{Part, part_of, part_heard, part_lapsed, part_restarted}
use Rattle.coap_message.specs.Message.{CoapMessage, IsMessage, spelling}
use Rattle.coap_message.specs.declared.fault.CoapFault.{CoapFault}
use Rattle.coap_message.specs.Breaks.{Breaks}

-- What a request asks, with what a reply takes from it: of the signal channel, or of the data channel over a connection.
pub data Asking : Type 0 where
  by_message : (exchange : Exchange) (request : Request) → Asking
  by_http : (conn : ℕ) (message : HttpRequest) → Asking

-- A request that was taken up: the time that the run then had, who sent it, what it asks, and the replies that answered it.
pub record TakenUp : Type 0 where
  pub time : ℕ
  pub peer : ℕ
  pub asking : Asking
  pub replies : List OwnedOut

-- ---- of the signal channel

-- the handling takes this request up, which is for the domain, and leaves the state
pub record TakesUp (settings : SettingsValue) (domain : ℕ) (handling : Handling) (new : State) (taken : TakenUp) : Type 0 where
  pub datagram : List ℕ
  pub came : handling.what ≡ event.Datagram taken.peer datagram
  pub exchange : Exchange
  pub request : Request
  pub asks : taken.asking ≡ by_message exchange request
  pub is_received : IsReceived datagram (is_gateway (role_of settings taken.peer)) (received.Asked exchange request)
  pub for_domain : domain_of settings (role_of settings taken.peer) request ≡ Some domain
  pub time_is : taken.time ≡ new.time
  pub notices : List OwnedOut
  pub sends_are : handling.sends ≡ taken.replies ++ notices

-- The handling takes no request for the domain up: none came; or a message came that is refused for what it has; or 5.00 was answered, for want
-- of memory.
pub data PassesBy (settings : SettingsValue) (domain : ℕ) (handling : Handling) : Type 0 where
  none_came : ¬ (AsksFor settings domain handling.what) → PassesBy settings domain handling
  was_refused : (peer : ℕ) (datagram : List ℕ) (exchange : Exchange) (reject : Reject) → handling.what ≡ event.Datagram peer datagram
      → IsReceived datagram (is_gateway (role_of settings peer)) (received.Refused exchange reject) → PassesBy settings domain handling
  lacked_memory : (peer : ℕ) (datagram : List ℕ) → handling.what ≡ event.Datagram peer datagram → SaysUnavailable peer datagram handling.sends
      → PassesBy settings domain handling

-- ---- of the data channel

-- the turn takes this request up, which stands at the front of the connection, and whose client is of the domain
pub record FrontTakesUp (settings : SettingsValue) (domain conn : ℕ) (old : State) (sends : List OwnedOut) (taken : TakenUp) : Type 0 where
  pub caller : Caller
  pub asks_on : caller_of settings conn old.lines ≡ Some caller
  pub for_domain : caller.domain ≡ domain
  pub peer_is : taken.peer ≡ caller.peer
  pub line : Line
  pub there : line_of conn old.lines ≡ Some line
  pub message : HttpRequest
  pub cut : IsCut line.buffered (takes message)
  pub asks : taken.asking ≡ by_http conn message
  pub time_is : taken.time ≡ old.time
  pub sends_are : sends ≡ taken.replies

-- The turn takes no request for the domain up: who asks is of another domain; or what stands at the front is refused; or 500 was answered, for want of
-- memory.
pub data FrontPassesBy (settings : SettingsValue) (domain conn : ℕ) (old : State) (sends : List OwnedOut) : Type 0 where
  of_another : (caller : Caller) → caller_of settings conn old.lines ≡ Some caller → caller.domain ≢ domain → FrontPassesBy settings domain conn old sends
  front_refused : (line : Line) (fault : HttpFault) → line_of conn old.lines ≡ Some line → IsCut line.buffered (refuses fault) → FrontPassesBy settings domain conn old sends
  failed : SaysFailed conn sends → FrontPassesBy settings domain conn old sends

-- the turns take these requests for the domain up, in order, one each or none
abbrev pub FrontsTakeUp : SettingsValue → ℕ → ℕ → State → List (Turn State) → List TakenUp → Type 0
FrontsTakeUp settings domain conn old [] requests = requests ≡ []
FrontsTakeUp settings domain conn old (turn ∷ turns) requests =
    ((taken : TakenUp) × (rest : List TakenUp) × (requests ≡ taken ∷ rest) × FrontTakesUp settings domain conn old turn.sends taken
    × FrontsTakeUp settings domain conn turn.left turns rest)
    ⊎ (FrontPassesBy settings domain conn old turn.sends × FrontsTakeUp settings domain conn turn.left turns requests)

-- the handling of a piece takes these requests up, in its turns, and notifications follow
pub record PieceTakesUp (settings : SettingsValue) (domain conn : ℕ) (old : State) (sends : List OwnedOut) (requests : List TakenUp) : Type 0 where
  pub turns : List (Turn State)
  pub rested : State
  pub fronts : Chain (AnswersFront settings conn) old turns rested
  pub take_up : FrontsTakeUp settings domain conn old turns requests
  pub notices : List OwnedOut
  pub sends_are : sends ≡ outs_of (owed_in turns) ++ notices

-- ---- of both

-- a handling takes these requests for the domain up: by a datagram one at most, by a piece one in each turn at most, and else none
abbrev pub TakesUpAll : SettingsValue → ℕ → State → Handling → State → Event → List TakenUp → Type 0
TakesUpAll settings domain old handling new (event.Piece conn piece) requests = PieceTakesUp settings domain conn (receiving conn piece (later old handling.at)) handling.sends requests
TakesUpAll settings domain old handling new _ requests =
    ((taken : TakenUp) × (requests ≡ taken ∷ []) × TakesUp settings domain handling new taken) ⊎ ((requests ≡ []) × PassesBy settings domain handling)

-- ---- the turns of a domain

-- What a run has for the domain, one after the other: a message of one of its clients could be read, a request for it was taken up, a tick came at
-- which each of its clients has a turn, or the machine restarted; with the time that the whole run gave it.
pub data DomainTurn : Type 0 where
  hears : (time peer : ℕ) → DomainTurn
  asks : (taken : TakenUp) → DomainTurn
  ticks : (time : ℕ) → DomainTurn
  restarts : DomainTurn

-- a client of the domain is heard by a message, and nobody else of it is
pub data IsHeard (settings : SettingsValue) (domain time peer : ℕ) (datagram : List ℕ) (turns : List DomainTurn) : Type 0 where
  by_message : own_domain settings peer ≡ Some domain → (message : CoapMessage) → IsMessage message → datagram ≡ spelling message → turns ≡ hears time peer ∷ []
      → IsHeard settings domain time peer datagram turns
  unreadable : (fault : CoapFault) → Breaks datagram fault → turns ≡ [] → IsHeard settings domain time peer datagram turns
  of_another : own_domain settings peer ≢ Some domain → turns ≡ [] → IsHeard settings domain time peer datagram turns

-- what comes before the requests of a handling
abbrev pub SignalsFirst : SettingsValue → ℕ → State → Event → List DomainTurn → Type 0
SignalsFirst settings domain new (event.Datagram peer datagram) turns = IsHeard settings domain new.time peer datagram turns
SignalsFirst settings domain new event.Tick turns = turns ≡ ticks new.time ∷ []
SignalsFirst settings domain new event.Restart turns = turns ≡ restarts ∷ []
SignalsFirst settings domain new _ turns = turns ≡ []

-- The handlings lead from the one state to the other, and the turns of the domain in them are these, in order.
abbrev pub HasTurns : SettingsValue → ℕ → State → List Handling → List DomainTurn → State → Type 0
HasTurns settings domain old [] turns new = (turns ≡ []) × (new ≡ old)
HasTurns settings domain old (handling ∷ handlings) turns new =
    (between : State) × IsHandling settings old handling between
    × (signals : List DomainTurn) × (requests : List TakenUp) × (rest : List DomainTurn) × (turns ≡ signals ++ (map asks requests ++ rest))
    × SignalsFirst settings domain between handling.what signals × TakesUpAll settings domain old handling between handling.what requests
    × HasTurns settings domain between handlings rest new

-- what a verdict adds to the history
abbrev pub entries_of : Verdict → List Entry
entries_of (verdict.Accept reply entry) = entry ∷ []
entries_of _ = []

-- What is asked at the time by the peer is answered by these entries, by the rules of its channel, with these replies, whatever number Observe has;
-- and this is what is accepted.
abbrev pub AnsweredBy : SettingsValue → ℕ → List Entry → ℕ → ℕ → Asking → List OwnedOut → List Entry → Type 0
AnsweredBy settings domain before time peer (by_message exchange request) replies accepted =
    (decided : Verdict) × DecidesRequest settings (afresh settings before time) peer exchange request decided
    × (number : Option ℕ) × (replies ≡ sends_of number decided peer) × (accepted ≡ entries_of decided)
AnsweredBy settings domain before time peer (by_http conn message) replies accepted =
    (read : Result RestRequest RestReject) × Rest message read × (answered : RestAnswer)
    × (answered ≡ http_answer settings time before (record { peer = peer; domain = domain }) message.close read)
    × (replies ≡ owned.Conn conn (reply_in answered) ∷ closing conn message.close) × (accepted ≡ entries_in answered)

-- what a turn makes of what the domain has: who is heard is heard, and its signal back; a request is decided by the entries that there are, at its time,
-- it was answered so, and what was accepted is added; at a tick signals are lost; and at a restart the entries stay
abbrev pub TurnMakes : SettingsValue → ℕ → Part → DomainTurn → Part → Type 0
TurnMakes settings domain before (hears time peer) after = after ≡ part_heard settings time peer before
TurnMakes settings domain before (asks taken) after =
    (accepted : List Entry) × AnsweredBy settings domain before.entries taken.time taken.peer taken.asking taken.replies accepted
    × (after ≡ record before { entries = before.entries ++ accepted })
TurnMakes settings domain before (ticks time) after = after ≡ part_lapsed settings time before
TurnMakes settings domain before restarts after = after ≡ part_restarted settings domain before

-- the turns, one after the other, make the later of the earlier
abbrev pub Make : SettingsValue → ℕ → Part → List DomainTurn → Part → Type 0
Make settings domain before [] after = after ≡ before
Make settings domain before (turn ∷ turns) after = (between : Part) × TurnMakes settings domain before turn between × Make settings domain between turns after

-- What the domain has is what its own turns make, and each of its requests was answered by the domain's entries alone.
pub record IsIsolated (settings : SettingsValue) (start : State) (handlings : List Handling) (end : State) (domain : ℕ) : Type 0 where
  pub turns : List DomainTurn
  pub are : HasTurns settings domain start handlings turns end
  pub make : Make settings domain (part_of settings domain start) turns (part_of settings domain end)
