-- The turn that stands at the front of what is buffered of a connection (RFC 8323, sections 3.4 and 5).
use Rattle.std.specs.Prelude.{ℕ, ◌/◌, ◌%◌, List, [], Bool, true, false, ◌==◌, ◌&&◌, ◌||◌, not, if◌then◌else◌, ⊤}
use Rattle.coap_tcp.specs.declared.frame.Frame.{Frame}
use Rattle.coap_tcp.specs.Frames.{FrameValue, frame_bytes}
use Rattle.coap_tcp.specs.FrameReading as reading
use Rattle.coap_tcp.specs.FrameReading.{FrameCutValue, frame_at, frame_value}
use Rattle.coap_tcp.specs.declared.codes.TheConstants.{CSM, PING, PONG, RELEASE, ABORT}
use Rattle.coap_tcp.specs.declared.turn.Turn as code
use Rattle.coap_tcp.specs.declared.turn.Turn.TheVariants as turns

-- what is to be done with what stands at the front
pub data TurnValue : Type 0 where
  waits : TurnValue
  begins : TurnValue
  passes : TurnValue
  answers : List ℕ → TurnValue
  serves : FrameValue → TurnValue
  aborts : TurnValue
  closes : TurnValue

-- a message of this code and this token, without options and payload
abbrev pub plain : ℕ → List ℕ → FrameValue
plain code token = record { code = code; token = token; rest = [] }

-- a Pong has the token of the Ping (section 5.4)
abbrev pub pong_bytes : List ℕ → List ℕ
pong_bytes token = frame_bytes (plain PONG token)

-- a request has a code of class 0, and not that of an empty message (RFC 7252, section 12.1)
abbrev pub is_request : ℕ → Bool
is_request code = code / 32 == 0 && not (code % 32 == 0)

-- the first message is a CSM, and any other is a fault of the connection (section 5.3)
abbrev pub first_turn : FrameValue → TurnValue
first_turn f = if f.code == CSM then begins else aborts

-- A Ping is answered (section 5.4). A Release and an Abort end the connection (sections 5.5 and 5.6). A request is served.
-- Nothing is done with another CSM, a Pong, an empty message (section 3.4), a response, and what is of no known class.
abbrev pub later_turn : FrameValue → TurnValue
later_turn f =
    if f.code == PING then answers (pong_bytes f.token)
    else if f.code == RELEASE || f.code == ABORT then closes
    else if is_request f.code then serves f
    else passes

-- the turn of a message, by whether the connection had begun before it
abbrev pub message_turn : Bool → FrameValue → TurnValue
message_turn true f = later_turn f
message_turn false f = first_turn f

-- a fault of the stream is a fault of the connection (section 5.6)
abbrev pub turn_of : Bool → FrameCutValue → TurnValue
turn_of begun (reading.takes f) = message_turn begun f
turn_of begun reading.waits = waits
turn_of begun (reading.refuses fault) = aborts

-- the turn at the front of these bytes, by whether the connection has begun
abbrev pub turn_at : Bool → List ℕ → TurnValue
turn_at begun bytes = turn_of begun (frame_at bytes)

-- what the code's answers stand for
abbrev pub turn_value : code.Turn → TurnValue
turn_value turns.Waits = waits
turn_value turns.Begins = begins
turn_value turns.Passes = passes
turn_value (turns.Answers pong) = answers pong
turn_value (turns.Serves frame) = serves (frame_value frame)
turn_value turns.Aborts = aborts
turn_value turns.Closes = closes

-- P of the request's frame, where one is served
abbrev pub IfServes : code.Turn → (Frame → Type 0) → Type 0
IfServes turns.Waits P = ⊤
IfServes turns.Begins P = ⊤
IfServes turns.Passes P = ⊤
IfServes (turns.Answers pong) P = ⊤
IfServes (turns.Serves frame) P = P frame
IfServes turns.Aborts P = ⊤
IfServes turns.Closes P = ⊤
