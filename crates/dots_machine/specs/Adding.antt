-- When an entry is added to the history.
use Rattle.std.specs.Prelude.{◌≡◌, ◌⊎◌, ℕ, Bool, false, List, [], ◌∷◌, ◌++◌, Some, Ok}
use Rattle.dots_host.specs.declared.event.Event.{Event}
use Rattle.dots_host.specs.declared.event.Event.TheVariants as event
use Rattle.dots_host.specs.declared.out.OwnedOut.{OwnedOut}
use Rattle.dots_host.specs.declared.out.OwnedOut.TheVariants as owned
use Rattle.dots_host.specs.Runs.{Turn, Chain, owed_in, outs_of}
use Rattle.dots_settings.specs.Settings.{SettingsValue}
use Rattle.dots_settings.specs.Lookups.{role_of}
use Rattle.dots_history.specs.declared.entry.Entry.{Entry}
use Rattle.stream_table.specs.Lines.{Line, line_of}
use Rattle.http_cut.specs.Requests.{Request as HttpRequest, takes, IsCut}
use Rattle.data_channel.specs.declared.request.RestRequest.{RestRequest}
use Rattle.data_channel.specs.Rest.{Rest}
use Rattle.rest_answers.specs.declared.answer.RestAnswer.TheVariants as answer
use Rattle.rest_answers.specs.declared.caller.Caller.{Caller}
use Rattle.rest_answers.specs.Known.{known_of}
use Rattle.rest_answers.specs.Answers.{rest_answer}
use Rattle.rest_answers.specs.Replies.{unavailable}
use Rattle.rest_answers.specs.Turns.{caller_of, closing}
use Rattle.dots_machine.specs.declared.received.Received.{Received}
use Rattle.dots_machine.specs.declared.verdict.Verdict.TheVariants as verdict
use Rattle.dots_machine.specs.Domains.{is_gateway, is_stranger}
use Rattle.dots_machine.specs.Requests.{IsReceived}
use Rattle.dots_machine.specs.Machine.{State, later, Rules, Hears, lapsed, AnswersFront, receiving}
use Rattle.dots_machine.specs.Answering.{IsHandedIn, IsUnavailable}
use Rattle.dots_machine.specs.Handlings.{Handling, IsHandling}

-- What a peer sent is no stranger's, and the rules accept it with this entry.
pub record AcceptsDatagram (settings : SettingsValue) (state : State) (peer : ℕ) (datagram : List ℕ) (entry : Entry) : Type 0 where
  pub known : is_stranger (role_of settings peer) ≡ false
  pub got : Received
  pub received : IsReceived datagram (is_gateway (role_of settings peer)) got
  pub reply : List ℕ
  pub accepted : Rules settings state peer got (verdict.Accept reply entry)

-- A request stands at the front of the connection, which the rules accept with this entry.
pub record AcceptsFront (settings : SettingsValue) (conn : ℕ) (state : State) (entry : Entry) : Type 0 where
  pub caller : Caller
  pub asks : caller_of settings conn state.lines ≡ Some caller
  pub line : Line
  pub there : line_of conn state.lines ≡ Some line
  pub message : HttpRequest
  pub cut : IsCut line.buffered (takes message)
  pub asked : RestRequest
  pub means : Rest message (Ok asked)
  pub reply : List ℕ
  pub accepted : rest_answer (known_of settings state.time state.history caller asked) caller message.close asked ≡ answer.Accept reply entry

-- 500 was answered on the connection, for want of memory
abbrev pub SaysFailed : ℕ → List OwnedOut → Type 0
SaysFailed conn sends = (close : Bool) × (sends ≡ owned.Conn conn (unavailable close) ∷ closing conn close)

-- A turn of a connection adds at most one entry to the history, and exactly where the rules accept the request at its front, with that entry; or 500
-- was answered, for want of memory.
pub record FrontAdds (settings : SettingsValue) (conn : ℕ) (old : State) (sends : List OwnedOut) (new : State) : Type 0 where
  pub answers : AnswersFront settings conn old sends new
  pub added : (new.history ≡ old.history) ⊎ ((entry : Entry) × (new.history ≡ old.history ++ entry ∷ []) × AcceptsFront settings conn old entry)
  pub accepted : (entry : Entry) → AcceptsFront settings conn old entry → (new.history ≡ old.history ++ entry ∷ []) ⊎ SaysFailed conn sends

-- A piece adds what its turns add, and the notifications behind them add nothing.
pub record PieceAdds (settings : SettingsValue) (conn : ℕ) (old : State) (sends : List OwnedOut) (new : State) : Type 0 where
  pub turns : List (Turn State)
  pub rested : State
  pub fronts : Chain (FrontAdds settings conn) old turns rested
  pub notices : List OwnedOut
  pub sends_are : sends ≡ outs_of (owed_in turns) ++ notices
  pub history_is : new.history ≡ rested.history

-- A datagram whose peer was heard adds that its signal is back, exactly where that was lost, by `Hears`. Behind that it adds at most one entry, exactly
-- where the rules accept it, at its time, with that entry; or 5.00 was answered, for want of memory.
pub record DatagramAdds (settings : SettingsValue) (old : State) (peer : ℕ) (datagram : List ℕ) (owed : List (State × OwnedOut)) (new : State) : Type 0 where
  pub met : State
  pub hears : Hears settings old peer datagram met
  pub added : (new.history ≡ met.history) ⊎ ((entry : Entry) × (new.history ≡ met.history ++ entry ∷ []) × AcceptsDatagram settings met peer datagram entry)
  pub accepted : IsHandedIn (event.Datagram peer datagram) → (entry : Entry) → AcceptsDatagram settings met peer datagram entry
      → (new.history ≡ met.history ++ entry ∷ []) ⊎ IsUnavailable (event.Datagram peer datagram) owed

-- What an event adds to the history: that of requests, of the signal channel or of the data channel; at a tick that signals are lost; and nothing else
-- adds any.
abbrev pub Adds : SettingsValue → State → Event → List (State × OwnedOut) → State → Type 0
Adds settings old (event.Datagram peer datagram) owed new = DatagramAdds settings old peer datagram owed new
Adds settings old (event.Piece conn piece) owed new = PieceAdds settings conn (receiving conn piece old) (outs_of owed) new
Adds settings old event.Tick owed new = new.history ≡ (lapsed settings old).history
Adds settings old _ owed new = new.history ≡ old.history

-- A handling adds to the history exactly what the rules accept, at its time.
pub record AddsExactly (settings : SettingsValue) (old : State) (handling : Handling) (new : State) : Type 0 where
  pub handled : IsHandling settings old handling new
  pub adds : Adds settings (later old handling.at) handling.what handled.owed new
