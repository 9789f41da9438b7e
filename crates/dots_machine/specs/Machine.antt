-- The machine: its state, what it decides on a datagram, and a step.
use Rattle.std.specs.Prelude.{◌≡◌, ◌≢◌, ◌⊎◌, ℕ, Bool, true, false, max, List, [], ◌∷◌, ◌++◌, map, flat_map, None, Option, Result, Ok, Err, IsOk}
use Rattle.dots_host.specs.declared.event.Event.{Event}
use Rattle.dots_host.specs.declared.event.Event.TheVariants as event
use Rattle.dots_host.specs.declared.out.OwnedOut.{OwnedOut}
use Rattle.dots_host.specs.declared.out.OwnedOut.TheVariants as owned
use Rattle.dots_host.specs.Runs.{Turn, Chain, owed_in, in_one_turn}
use Rattle.coap_message.specs.declared.kind.Kind.{Kind}
use Rattle.coap_message.specs.declared.kind.Kind.TheVariants.{Con}
use Rattle.coap_message.specs.Message.{CoapMessage, IsMessage, spelling}
use Rattle.coap_message.specs.declared.fault.CoapFault.{CoapFault}
use Rattle.coap_message.specs.Breaks.{Breaks}
use Rattle.dots_settings.specs.Settings.{SettingsValue}
use Rattle.dots_settings.specs.Lookups.{role_of}
use Rattle.dots_history.specs.declared.entry.Entry.{Entry}
use Rattle.dots_history.specs.Fits.{last_time}
use Rattle.coap_observe.specs.Observed.{ObservedValue}
use Rattle.coap_observe.specs.Seen.{Lists}
use Rattle.session_core.specs.declared.contact.PeerContact.{PeerContact}
use Rattle.session_core.specs.Contacts.{unheard, heard_from}
use Rattle.session_core.specs.Beating.{Beating}
use Rattle.session_core.specs.Beats.{beats, after_beats}
use Rattle.session_core.specs.Notifying.{Notifies}
use Rattle.stream_table.specs.declared.refused.Refused.{Refused}
use Rattle.stream_table.specs.Lines.{PeerLines, no_lines, opened, opening, forgotten}
use Rattle.rest_answers.specs.Turns.{HttpTurn, with_piece, Rests}
use Rattle.dots_keys.specs.declared.reject.Reject.{Reject}
use Rattle.dots_keys.specs.declared.reject.Reject.TheVariants as reject
use Rattle.dots_keys.specs.Heads.{head_of}
use Rattle.dots_keys.specs.declared.request.Request.{Request}
use Rattle.dots_keys.specs.declared.exchange.Exchange.{Exchange}
use Rattle.dots_keys.specs.declared.dismissal.Dismissal.{Dismissal}
use Rattle.dots_keys.specs.declared.dismissal.Dismissal.TheVariants as dismissal
use Rattle.dots_machine.specs.declared.received.Received.{Received}
use Rattle.dots_machine.specs.declared.received.Received.TheVariants as received
use Rattle.dots_machine.specs.Verdict.{Verdict}
use Rattle.dots_machine.specs.declared.verdict.Verdict.TheVariants as verdict
use Rattle.dots_machine.specs.Domains.{is_gateway, is_stranger}
use Rattle.dots_keys.specs.Exchanges.{exchange_in, dismissed}
use Rattle.dots_machine.specs.Requests.{IsReceived}
use Rattle.dots_keys.specs.Replies.{reset_message, rejection}
use Rattle.dots_machine.specs.Replies.{unavailable, showing}
use Rattle.dots_machine.specs.declared.watching.Watching.{Watching}
use Rattle.dots_machine.specs.Observing.{Watches, seen_at, bodies_at, number_of, observing}
use Rattle.dots_machine.specs.ConfiguredPeers.{beating_at}
use Rattle.dots_machine.specs.Signals.{back_of, last_heard, history_lapsed, rows_lapsed}
use Rattle.dots_machine.specs.Facts.{Facts, AreFacts, facts_of}
use Rattle.dots_machine.specs.Deciding.{answer_to}

-- The history, and the time of the last event. In memory alone: the connections of each client's peer with the bytes that they hold, the
-- observers in the order of their registration, and for each peer when it was heard.
pub record State : Type 0 where
  pub history : List Entry
  pub time : ℕ
  pub lines : List PeerLines
  pub observers : List ObservedValue
  pub contacts : List PeerContact

-- nothing but the history and a time: no connection is open, nobody observes, and no peer was heard
abbrev pub afresh : SettingsValue → List Entry → ℕ → State
afresh settings history time = record {
  history = history;
  time = time;
  lines = flat_map no_lines settings.peers;
  observers = [];
  contacts = map unheard settings.peers;
}

-- what the disk held was accepted before, and it is the time of the last entry, or 0 where there is none
abbrev pub begun_from : SettingsValue → List Entry → State
begun_from settings entries = afresh settings entries (last_time entries)

-- Within a run the time doesn't fall: it is the greater of the time handed in and the time before.
abbrev pub later : State → ℕ → State
later state at = record state { time = max at state.time }

-- The machine restarts: what was accepted stays and no more, and the time is the greater of the time handed in and that of the last entry.
abbrev pub restarted : SettingsValue → State → ℕ → State
restarted settings state at = afresh settings state.history (max at (last_time state.history))

abbrev pub with_entry : State → Entry → State
with_entry state entry = record state { history = state.history ++ entry ∷ [] }

-- what is known in a state
abbrev pub facts_in : SettingsValue → State → Facts
facts_in settings state = facts_of settings state.time state.history

-- what is decided on a request, by what is known of the history at the time
abbrev pub DecidesRequest : SettingsValue → State → ℕ → Exchange → Request → Verdict → Type 0
DecidesRequest settings state peer exchange asked decided =
    (facts : Facts) × AreFacts settings state.time state.history facts × (decided ≡ answer_to settings facts peer exchange asked)

-- A message with a critical option that isn't recognised is answered where it is confirmable (RFC 7252, section 5.4.1); any other
-- that is refused is answered.
abbrev pub option_verdict : Kind → List ℕ → Verdict
option_verdict Con reply = verdict.Reply reply
option_verdict _ reply = verdict.Silent

abbrev pub reject_verdict : Exchange → Reject → Verdict
reject_verdict exchange (reject.Critical number) = option_verdict exchange.kind (rejection exchange (reject.Critical number))
reject_verdict exchange other = verdict.Reply (rejection exchange other)

abbrev pub dismissal_verdict : Dismissal → Verdict
dismissal_verdict dismissal.Ignored = verdict.Silent
dismissal_verdict (dismissal.Reset id) = verdict.Reply (reset_message id)
dismissal_verdict (dismissal.Rejected id) = verdict.Silent

-- what the rules say of what a client or a gateway sent, by what is known
abbrev pub rules_say : SettingsValue → Facts → ℕ → Received → Verdict
rules_say settings facts peer (received.Unread answered) = dismissal_verdict answered
rules_say settings facts peer (received.Dismissed answered) = dismissal_verdict answered
rules_say settings facts peer (received.Refused exchange reject) = reject_verdict exchange reject
rules_say settings facts peer (received.Asked exchange request) = answer_to settings facts peer exchange request

abbrev pub Rules : SettingsValue → State → ℕ → Received → Verdict → Type 0
Rules settings state peer got decided =
    (facts : Facts) × AreFacts settings state.time state.history facts × (decided ≡ rules_say settings facts peer got)

-- The datagram is a message that asks something, all that stands before its body is right, and it is answered 5.00 for want of memory.
pub record LacksMemory (datagram : List ℕ) (gateway : Bool) (decided : Verdict) : Type 0 where
  pub message : CoapMessage
  pub is_message : IsMessage message
  pub spelled : datagram ≡ spelling message
  pub asks : dismissed message ≡ None
  pub head : IsOk (head_of message gateway)
  pub answer : decided ≡ verdict.Reply (unavailable (exchange_in message))

-- What is decided on a datagram: silence on that of a stranger; on that of a client or a gateway what the rules say, or 5.00 for want
-- of memory.
pub data Decides (settings : SettingsValue) (state : State) (peer : ℕ) (datagram : List ℕ) (decided : Verdict) : Type 0 where
  by_silence : is_stranger (role_of settings peer) ≡ true → decided ≡ verdict.Silent → Decides settings state peer datagram decided
  by_rules : is_stranger (role_of settings peer) ≡ false → (got : Received) → IsReceived datagram (is_gateway (role_of settings peer)) got
      → Rules settings state peer got decided → Decides settings state peer datagram decided
  for_want_of_memory : is_stranger (role_of settings peer) ≡ false → LacksMemory datagram (is_gateway (role_of settings peer)) decided
      → Decides settings state peer datagram decided

-- The replies that carry a verdict out, and the state after it. Where mitigations are shown Observe has the number, if there is one.
abbrev pub sends_of : Option ℕ → Verdict → ℕ → List OwnedOut
sends_of number verdict.Silent peer = []
sends_of number (verdict.Reply reply) peer = owned.To peer reply ∷ []
sends_of number (verdict.LongReply reply) peer = owned.To peer reply ∷ []
sends_of number (verdict.Retrieves exchange body) peer = owned.To peer (showing exchange number body) ∷ []
sends_of number (verdict.Accept reply entry) peer = owned.To peer reply ∷ []

abbrev pub after : Verdict → State → State
after (verdict.Accept reply entry) state = with_entry state entry
after _ state = state

-- The peer is heard now, and a session with it begins where there is none; and a signal of it that was lost is back.
abbrev pub hearing : SettingsValue → ℕ → State → State
hearing settings peer state = record state {
  history = state.history ++ back_of settings state.time state.history peer;
  contacts = heard_from peer state.time state.contacts;
}

-- A client or a gateway is heard by each message of it, whatever that is answered; what can't be read isn't heard, nor is a stranger (RFC 9132,
-- section 4.7).
pub data Hears (settings : SettingsValue) (state : State) (peer : ℕ) (datagram : List ℕ) (new : State) : Type 0 where
  by_message : is_stranger (role_of settings peer) ≡ false → (message : CoapMessage) → IsMessage message → datagram ≡ spelling message → new ≡ hearing settings peer state
      → Hears settings state peer datagram new
  unreadable : (fault : CoapFault) → Breaks datagram fault → new ≡ state → Hears settings state peer datagram new
  by_stranger : is_stranger (role_of settings peer) ≡ true → new ≡ state → Hears settings state peer datagram new

-- ---- observation

-- what there is to see in a state
abbrev pub seen_in : SettingsValue → State → Lists
seen_in settings state = seen_at settings state.time state.history

-- who observes after an answer
abbrev pub watched : SettingsValue → ℕ → Watching → Verdict → List OwnedOut → State → State
watched settings peer asked decided replies state =
    record state { observers = observing settings (seen_in settings state) peer asked decided replies state.observers }

-- Each observer that is due is told what there is to see, in the order of registration, or it stays due for want of memory (RFC 7641, section
-- 4.2).
abbrev pub Notified : SettingsValue → State → List OwnedOut → State → Type 0
Notified settings state sends new =
    (observers : List ObservedValue) × (contacts : List PeerContact)
    × Notifies (seen_in settings state) (bodies_at settings state.time state.history) state.observers state.contacts sends observers contacts
    × (new ≡ record state { observers = observers; contacts = contacts })

-- The peer of a datagram is heard, and then the datagram is decided on, and the verdict is carried out; then the observers that are due are told.
pub record Answers (settings : SettingsValue) (state : State) (peer : ℕ) (datagram : List ℕ) (sends : List OwnedOut) (new : State) : Type 0 where
  pub met : State
  pub hears : Hears settings state peer datagram met
  pub decided : Verdict
  pub decides : Decides settings met peer datagram decided
  pub asked : Watching
  pub watches : Watches settings peer datagram asked
  pub replies : List OwnedOut
  pub replies_are : replies ≡ sends_of (number_of settings asked met.observers) decided peer
  pub notices : List OwnedOut
  pub notified : Notified settings (watched settings peer asked decided replies (after decided met)) notices new
  pub sends_are : sends ≡ replies ++ notices

-- what the heartbeats of each peer go by
abbrev pub beating : SettingsValue → State → Beating
beating settings state = beating_at settings state.time state.history

-- sessions that are lost are forgotten, and each heartbeat that is due is sent (RFC 9132, section 4.7)
abbrev pub Beats : SettingsValue → State → List OwnedOut → State → Type 0
Beats settings state sends new =
    (sends ≡ beats (beating settings state) state.time state.contacts)
    × (new ≡ record state { contacts = after_beats (beating settings state) state.time state.contacts })

-- Each peer has had its turn: the signals of watched clients that are silent are lost, and the sessions of silent peers are forgotten.
abbrev pub lapsed : SettingsValue → State → State
lapsed settings state = record state {
  history = history_lapsed settings state.time state.history (map last_heard state.contacts);
  contacts = rows_lapsed settings state.time state.history state.contacts;
}

-- at a tick signals are lost, the observers that are due are notified, and then the heartbeats are sent
pub record Ticks (settings : SettingsValue) (state : State) (sends : List OwnedOut) (new : State) : Type 0 where
  pub notices : List OwnedOut
  pub between : State
  pub notified : Notified settings (lapsed settings state) notices between
  pub heartbeats : List OwnedOut
  pub beaten : Beats settings between heartbeats new
  pub sends_are : sends ≡ notices ++ heartbeats

-- ---- connections to the data channel

-- A peer opened a connection. What had its number before is forgotten, and it is taken where the peer is a client of which fewer than two are
-- open then.
abbrev pub connected : ℕ → ℕ → State → State
connected peer conn state = record state { lines = opened peer conn state.lines }

-- a connection was closed: it is forgotten, with the bytes of it that aren't answered
abbrev pub disconnected : ℕ → State → State
disconnected conn state = record state { lines = forgotten conn state.lines }

-- a connection that isn't taken is closed, and one that is taken is sent nothing
abbrev pub turned_away : ℕ → Result Unit Refused → List OwnedOut
turned_away conn (Ok taken) = []
turned_away conn (Err refused) = owned.Close conn ∷ []

-- A peer opens a connection to the data channel (RFC 8783, section 3): that of a stranger or a gateway is closed, and so is a third one of
-- a client. No observer is told.
abbrev pub Opens : State → ℕ → ℕ → List OwnedOut → State → Type 0
Opens state peer conn sends new = (sends ≡ turned_away conn (opening peer conn state.lines)) × (new ≡ connected peer conn state)

-- ---- what comes of a connection

-- What stands at its front is answered: a request by the rules, or by 500 for want of memory; or it is no request, and the connection is closed.
abbrev pub AnswersFront : SettingsValue → ℕ → State → List OwnedOut → State → Type 0
AnswersFront settings conn state sends new =
    (history : List Entry) × (lines : List PeerLines) × HttpTurn settings conn state.time state.history state.lines sends history lines
    × (new ≡ record state { history = history; lines = lines })

-- the bytes of a piece are held behind those that were
abbrev pub receiving : ℕ → List ℕ → State → State
receiving conn piece state = record state { lines = with_piece conn piece state.lines }

-- What stands at the front of a connection is answered, one after the other, until more is waited for or the connection is gone. Each is a turn: its
-- entry is written before its reply is sent, and what comes behind it is decided on by the history with that entry. Then, in a last turn, the
-- observers that are due are told.
pub record Takes (settings : SettingsValue) (conn : ℕ) (state : State) (turns : List (Turn State)) (new : State) : Type 0 where
  pub answered : List (Turn State)
  pub rested : State
  pub fronts : Chain (AnswersFront settings conn) state answered rested
  pub rests : Rests conn rested.lines
  pub notices : List OwnedOut
  pub notified : Notified settings rested notices new
  pub turns_are : turns ≡ answered ++ record { sends = notices; left = new } ∷ []

-- in these turns: each of the sends tells the state that its turn leaves
abbrev pub in_turns : (List (Turn State) → Type 0) → List (State × OwnedOut) → Type 0
in_turns takes owed = (turns : List (Turn State)) × (owed ≡ owed_in turns) × takes turns

-- One event: the sends that it owes, each beside the state that it tells, and the state after it. End and a failure of the host move no
-- time; a restart keeps what was accepted alone; a connection that was closed is forgotten, and nobody is told; and a piece of one is put behind
-- what is held of it.
abbrev pub Step : SettingsValue → State → Event → ℕ → List (State × OwnedOut) → State → Type 0
Step settings old (event.Datagram peer datagram) at owed new = in_one_turn (λ sends. Answers settings (later old at) peer datagram sends new) owed new
Step settings old event.End at owed new = (owed ≡ []) × (new ≡ old)
Step settings old event.Failed at owed new = (owed ≡ []) × (new ≡ old)
Step settings old event.Restart at owed new = (owed ≡ []) × (new ≡ restarted settings old at)
Step settings old (event.Opened conn peer) at owed new = in_one_turn (λ sends. Opens (later old at) peer conn sends new) owed new
Step settings old (event.Closed conn) at owed new = (owed ≡ []) × (new ≡ disconnected conn (later old at))
Step settings old event.Tick at owed new = in_one_turn (λ sends. Ticks settings (later old at) sends new) owed new
Step settings old (event.Piece conn piece) at owed new = in_turns (λ turns. Takes settings conn (receiving conn piece (later old at)) turns new) owed

-- In the middle of an event the disk failed. These turns of the event were carried out, and the one after them was being written, which has an
-- entry, or more. What comes behind it in the event isn't taken up. An event that writes nothing can't be cut so. A datagram is cut as it is kept
-- that the signal of its peer is back, or as what it asks is; a tick is cut as signals are lost.
abbrev pub StepInto : SettingsValue → State → Event → ℕ → List (Turn State) → Turn State → Type 0
StepInto settings old (event.Datagram peer datagram) at turns last =
    (turns ≡ []) × (met : State) × Hears settings (later old at) peer datagram met
    × (((met.history ≢ old.history) × (last ≡ (record { sends = []; left = met })))
    ⊎ ((reply : List ℕ) × (entry : Entry) × Decides settings met peer datagram (verdict.Accept reply entry)
    × (last ≡ (record { sends = owned.To peer reply ∷ []; left = with_entry met entry }))))
StepInto settings old event.Tick at turns last =
    (turns ≡ []) × ((lapsed settings (later old at)).history ≢ old.history) × (last ≡ (record { sends = []; left = lapsed settings (later old at) }))
StepInto settings old (event.Piece conn piece) at turns last =
    (between : State) × Chain (AnswersFront settings conn) (receiving conn piece (later old at)) turns between
    × AnswersFront settings conn between last.sends last.left × (entry : Entry) × (last.left.history ≡ between.history ++ entry ∷ [])
StepInto settings old _ at turns last = ⊥
