-- A turn of a connection: what stands at its front is answered (RFC 9112, sections 2, 6 and 9; RFC 8783, section 3).
use Rattle.std.specs.Prelude.{◌≡◌, ◌⊎◌, ℕ, ◌<◌, ◌≤◌, Bool, true, false, if◌then◌else◌, List, [], ◌∷◌, ◌++◌, length, drop, Option, None, Some, option_and_then, MatchOption, ⊤}
use Rattle.dots_host.specs.declared.out.OwnedOut.{OwnedOut}
use Rattle.dots_host.specs.declared.out.OwnedOut.TheVariants as owned
use Rattle.dots_settings.specs.declared.peer.Role.{Role}
use Rattle.dots_settings.specs.declared.peer.Role.TheVariants as role
use Rattle.dots_settings.specs.Settings.{SettingsValue}
use Rattle.dots_settings.specs.Lookups.{role_of}
use Rattle.dots_history.specs.declared.entry.Entry.{Entry}
use Rattle.stream_table.specs.Lines.{Line, PeerLines, line_of, peer_of, forgotten, buffering}
use Rattle.stream_table.specs.Places.{with_more}
use Rattle.http_cut.specs.declared.fault.HttpFault.TheVariants.{BadHead}
use Rattle.http_cut.specs.Requests.{Request, takes, waits, refuses, IsCut}
use Rattle.http_cut.specs.Streams.{IsOpen}
use Rattle.data_channel.specs.declared.request.RestRequest.{RestRequest}
use Rattle.rest_answers.specs.declared.answer.RestAnswer.TheVariants as answer
use Rattle.rest_answers.specs.declared.caller.Caller.{Caller}
use Rattle.rest_answers.specs.declared.front.RestFront.{RestFront as FrontOf}
use Rattle.rest_answers.specs.declared.front.RestFront.TheVariants as fronts
use Rattle.rest_answers.specs.Answer.{RestAnswer}
use Rattle.rest_answers.specs.Replies.{refusal, unavailable}
use Rattle.rest_answers.specs.Answers.{IsOf, Answers}

-- what stands at the front of a connection, as a plain value
abbrev pub RestFront : Type 0
RestFront = FrontOf Entry

-- ---- who asks

abbrev pub caller_in : ℕ → Role → Option Caller
caller_in peer (role.Client domain) = Some (record { peer = peer; domain = domain })
caller_in peer role.Gateway = None
caller_in peer role.Stranger = None

abbrev pub caller_by : SettingsValue → ℕ → Option Caller
caller_by settings peer = caller_in peer (role_of settings peer)

-- the peer of the connection, and the domain of which it is a client
abbrev pub caller_of : SettingsValue → ℕ → List PeerLines → Option Caller
caller_of settings conn lines = option_and_then (caller_by settings) (peer_of conn lines)

-- ---- what stands at the front

-- **what may stand at the front of the held bytes by a history at time t**: a request with its answer, a refusal, or less than either
abbrev pub IsFront : SettingsValue → ℕ → List Entry → Caller → List ℕ → RestFront → Type 0
IsFront settings t history caller held fronts.Waits = IsCut held waits
IsFront settings t history caller held (fronts.Refused fault) = IsCut held (refuses fault)
IsFront settings t history caller held (fronts.Answered size close answered) =
    (message : Request) × IsCut held (takes message) × (size ≡ message.size) × (close ≡ message.close) × Answers settings t history caller message answered

abbrev pub is_waiting : RestFront → Bool
is_waiting fronts.Waits = true
is_waiting (fronts.Refused fault) = false
is_waiting (fronts.Answered size close answered) = false

-- the bytes of a request are among those that are held, and there are some
abbrev pub HasSize : List ℕ → RestFront → Type 0
HasSize held fronts.Waits = ⊤
HasSize held (fronts.Refused fault) = ⊤
HasSize held (fronts.Answered size close answered) = (0 < size) × (size ≤ length held)

-- ---- what is done of it

abbrev pub reply_in : RestAnswer → List ℕ
reply_in (answer.Reply reply) = reply
reply_in (answer.LongReply reply) = reply
reply_in (answer.Accept reply entry) = reply

-- the end of the connection behind the reply, where it is closed
abbrev pub closing : ℕ → Bool → List OwnedOut
closing conn true = owned.Close conn ∷ []
closing conn false = []

-- the reply, and the end of the connection where it is closed; a refusal closes it
abbrev pub sends_of : ℕ → RestFront → List OwnedOut
sends_of conn fronts.Waits = []
sends_of conn (fronts.Refused fault) = owned.Conn conn (refusal fault) ∷ closing conn true
sends_of conn (fronts.Answered size close answered) = owned.Conn conn (reply_in answered) ∷ closing conn close

-- the entry of what is accepted is put behind the history, and nothing else is
abbrev pub entries_in : RestAnswer → List Entry
entries_in (answer.Reply reply) = []
entries_in (answer.LongReply reply) = []
entries_in (answer.Accept reply entry) = entry ∷ []

abbrev pub entries_of : RestFront → List Entry
entries_of fronts.Waits = []
entries_of (fronts.Refused fault) = []
entries_of (fronts.Answered size close answered) = entries_in answered

-- the bytes of a request are no longer held, or the connection is gone
abbrev pub lines_behind : ℕ → RestFront → List PeerLines → List PeerLines
lines_behind conn fronts.Waits lines = lines
lines_behind conn (fronts.Refused fault) lines = forgotten conn lines
lines_behind conn (fronts.Answered size close answered) lines = if close then forgotten conn lines else buffering conn (drop size) lines

-- **one turn of a connection at time t**: a request or a refusal stands at its front, which is answered. Where more is waited for there is none.
pub record HttpTurn (settings : SettingsValue) (conn t : ℕ) (history : List Entry) (lines : List PeerLines) (sends : List OwnedOut) (after : List Entry) (behind : List PeerLines) : Type 0 where
  pub caller : Caller
  pub asks : caller_of settings conn lines ≡ Some caller
  pub line : Line
  pub there : line_of conn lines ≡ Some line
  pub front : RestFront
  pub stands : IsFront settings t history caller line.buffered front
  pub due : is_waiting front ≡ false
  pub sends_are : sends ≡ sends_of conn front
  pub history_is : after ≡ history ++ entries_of front
  pub lines_are : behind ≡ lines_behind conn front lines

-- ---- a piece, whose turns these are

-- Its bytes are held behind those that were. Of a connection that waits fewer than 16,384 are held; here there may be more, until all turns of the
-- piece are over.
abbrev pub with_piece : ℕ → List ℕ → List PeerLines → List PeerLines
with_piece conn piece lines = buffering conn (with_more piece) lines

-- no turn is left: the connection is gone, or more is waited for
abbrev pub Rests : ℕ → List PeerLines → Type 0
Rests conn lines = MatchOption (line_of conn lines) ⊤ (λ line. IsCut line.buffered waits)

-- what a turn adds to a history: nothing, or one entry of this caller at that time
abbrev pub AddsOne : ℕ → Caller → List Entry → List Entry → Type 0
AddsOne t caller history after =
    (after ≡ history) ⊎ ((asked : RestRequest) × (entry : Entry) × (after ≡ history ++ entry ∷ []) × IsOf t caller asked entry)

-- ---- how two fronts of the same bytes may differ

-- they answer one request, and one of them by 500 for want of memory
pub record LackMemory (one other : RestFront) : Type 0 where
  pub size : ℕ
  pub close : Bool
  pub first : RestAnswer
  pub second : RestAnswer
  pub one_is : one ≡ fronts.Answered size close first
  pub other_is : other ≡ fronts.Answered size close second
  pub lacks : (first ≡ answer.Reply (unavailable close)) ⊎ (second ≡ answer.Reply (unavailable close))

-- no head can come any more, which is refused at once in the one, and waited with in the other (RFC 9112, section 2.2)
pub record IsEarly (held : List ℕ) (one other : RestFront) : Type 0 where
  pub never : IsOpen held
  pub which : ((one ≡ fronts.Waits) × (other ≡ fronts.Refused BadHead)) ⊎ ((one ≡ fronts.Refused BadHead) × (other ≡ fronts.Waits))
