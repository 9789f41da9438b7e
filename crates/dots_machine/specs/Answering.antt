-- How two steps on one event may differ.
use Rattle.std.specs.Prelude.{◌≡◌, ◌⊎◌, ◌<◌, ◌^◌, ℕ, List, [], ◌∷◌, ◌++◌, length, get_or, Some, ⊤}
use Rattle.dots_host.specs.declared.event.Event.{Event}
use Rattle.dots_host.specs.declared.event.Event.TheVariants as event
use Rattle.dots_host.specs.declared.out.OwnedOut.{OwnedOut}
use Rattle.dots_host.specs.declared.out.OwnedOut.TheVariants as owned
use Rattle.dots_host.specs.Runs.{Turn, Chain, owed_in, outs_of}
use Rattle.coap_message.specs.Message.{CoapMessage, spelling}
use Rattle.dots_keys.specs.Exchanges.{exchange_in}
use Rattle.dots_machine.specs.Replies.{unavailable}
use Rattle.dots_settings.specs.Settings.{SettingsValue}
use Rattle.stream_table.specs.Lines.{Line, line_of}
use Rattle.rest_answers.specs.declared.caller.Caller.{Caller}
use Rattle.rest_answers.specs.Turns.{RestFront, caller_of, IsFront, sends_of, LackMemory, IsEarly}
use Rattle.dots_machine.specs.Machine.{State, Notified, Ticks, AnswersFront, receiving}

-- a host hands in bytes, which are below 256, and fewer than 2^64
abbrev pub AreBytes : List ℕ → Type 0
AreBytes bytes = ((i : ℕ) → get_or bytes i 0 < 256) × (length bytes < 2 ^ 64)

abbrev pub IsHandedIn : Event → Type 0
IsHandedIn (event.Datagram peer bytes) = AreBytes bytes
IsHandedIn _ = ⊤

-- the datagram of a message was answered by 5.00, for want of memory
pub record SaysUnavailable (peer : ℕ) (datagram : List ℕ) (sends : List OwnedOut) : Type 0 where
  pub message : CoapMessage
  pub spelled : datagram ≡ spelling message
  pub notices : List OwnedOut
  pub sent : sends ≡ owned.To peer (unavailable (exchange_in message)) ∷ notices

abbrev pub IsUnavailable : Event → List (State × OwnedOut) → Type 0
IsUnavailable (event.Datagram peer datagram) owed = SaysUnavailable peer datagram (outs_of owed)
IsUnavailable _ owed = ⊥

-- The sends, and the state after them, come from these replies in this state: behind the replies the observers that are due are told, or some
-- aren't, for want of memory; at a tick the heartbeats are sent; and as a connection opens there is nothing but the reply.
abbrev pub ComesFrom : SettingsValue → Event → List OwnedOut → State → List OwnedOut → State → Type 0
ComesFrom settings (event.Datagram peer datagram) replies state sends new = (notices : List OwnedOut) × (sends ≡ replies ++ notices) × Notified settings state notices new
ComesFrom settings (event.Piece conn piece) replies state sends new = (notices : List OwnedOut) × (sends ≡ replies ++ notices) × Notified settings state notices new
ComesFrom settings (event.Opened conn peer) replies state sends new = (sends ≡ replies) × (new ≡ state)
ComesFrom settings event.Tick replies state sends new = (replies ≡ []) × Ticks settings state sends new
ComesFrom settings _ replies state sends new = (replies ≡ []) × (sends ≡ []) × (new ≡ state)

-- both come from one answer
pub record HaveOneAnswer (settings : SettingsValue) (what : Event) (sends : List OwnedOut) (new : State) (others : List OwnedOut) (other : State) : Type 0 where
  pub replies : List OwnedOut
  pub state : State
  pub one : ComesFrom settings what replies state sends new
  pub another : ComesFrom settings what replies state others other

-- ---- how two answers differ

-- Behind the same turns two takings of a piece part: one request is answered in both, and in one of them by 500 for want of memory; or no head can
-- come any more, which is refused at once in the one and waited with in the other (RFC 9112, section 2.2).
pub record PartWays (settings : SettingsValue) (conn : ℕ) (state : State) (sends others : List OwnedOut) : Type 0 where
  pub turns : List (Turn State)
  pub met : State
  pub fronts : Chain (AnswersFront settings conn) state turns met
  pub caller : Caller
  pub asks : caller_of settings conn met.lines ≡ Some caller
  pub line : Line
  pub there : line_of conn met.lines ≡ Some line
  pub one : RestFront
  pub other : RestFront
  pub stands : IsFront settings met.time met.history caller line.buffered one
  pub stands_too : IsFront settings met.time met.history caller line.buffered other
  pub differ : LackMemory one other ⊎ IsEarly line.buffered one other
  pub more : List OwnedOut
  pub rest : List OwnedOut
  pub first : sends ≡ outs_of (owed_in turns) ++ (sends_of conn one ++ more)
  pub second : others ≡ outs_of (owed_in turns) ++ (sends_of conn other ++ rest)

-- a datagram was answered by 5.00 in one of them, for want of memory; or a piece was taken so that they part
abbrev pub Differ : SettingsValue → State → Event → List OwnedOut → List OwnedOut → Type 0
Differ settings state (event.Datagram peer datagram) sends others = SaysUnavailable peer datagram sends ⊎ SaysUnavailable peer datagram others
Differ settings state (event.Piece conn piece) sends others = PartWays settings conn (receiving conn piece state) sends others
Differ settings state _ sends others = ⊥
