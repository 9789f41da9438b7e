-- The turns of a whole connection, by all of its bytes, and by the pieces in which they come.
use Rattle.std.specs.Prelude.{◌≡◌, ◌⊎◌, ℕ, List, [], ◌∷◌, ◌++◌, length, drop, map, Bool, true, false, ◌==◌, ◌||◌, if◌then◌else◌, ⊤}
use Rattle.coap_tcp.specs.Frames.{FrameValue, frame_bytes}
use Rattle.coap_tcp.specs.FrameReading.{FrameCutValue, takes, frame_at}
use Rattle.coap_tcp.specs.FrameReading as reading
use Rattle.coap_tcp.specs.Streams.{IsStream}
use Rattle.coap_tcp.specs.declared.codes.TheConstants.{CSM}
use Rattle.coap_tcp.specs.Turns.{TurnValue, waits, begins, passes, answers, serves, aborts, closes, message_turn, later_turn, turn_at}

-- ---- what is buffered

-- whether the first message came, and the bytes that came and aren't done
pub record StreamValue : Type 0 where
  pub begun : Bool
  pub bytes : List ℕ

-- how many bytes the turn at the front takes: those of the message
abbrev pub size_of : FrameCutValue → ℕ
size_of (takes f) = length (frame_bytes f)
size_of reading.waits = 0
size_of (reading.refuses fault) = 0

abbrev pub turn_size : List ℕ → ℕ
turn_size bytes = size_of (frame_at bytes)

-- whether the connection has begun behind what stands at the front: it had before, or this is a CSM
abbrev pub begun_by : Bool → FrameCutValue → Bool
begun_by begun (takes f) = begun || f.code == CSM
begun_by begun reading.waits = begun
begun_by begun (reading.refuses fault) = begun

-- the turn at the front is done
abbrev pub behind : StreamValue → StreamValue
behind s = record { begun = begun_by s.begun (frame_at s.bytes); bytes = drop (turn_size s.bytes) s.bytes }

-- a piece came
abbrev pub with_piece : List ℕ → StreamValue → StreamValue
with_piece piece s = record { begun = s.begun; bytes = s.bytes ++ piece }

-- ---- the turns of all messages

-- the connection ends with this turn
abbrev pub is_last : TurnValue → Bool
is_last waits = false
is_last begins = false
is_last passes = false
is_last (answers bytes) = false
is_last (serves f) = false
is_last aborts = true
is_last closes = true

-- as far as the first that ends the connection, since what stands behind that isn't looked at
abbrev pub up_to_last : List TurnValue → List TurnValue
up_to_last [] = []
up_to_last (turn ∷ turns) = if is_last turn then turn ∷ [] else turn ∷ up_to_last turns

-- the turn of each message: the first begins the connection, where it hadn't begun
abbrev pub message_turns : Bool → List FrameValue → List TurnValue
message_turns begun [] = []
message_turns begun (f ∷ fs) = message_turn begun f ∷ map later_turn fs

-- the turn of a fault that stands behind them
abbrev pub end_turns : FrameCutValue → List TurnValue
end_turns (takes f) = []
end_turns reading.waits = []
end_turns (reading.refuses fault) = aborts ∷ []

abbrev pub turns_of : Bool → List FrameValue → FrameCutValue → List TurnValue
turns_of begun messages end = up_to_last (message_turns begun messages ++ end_turns end)

-- the turns of a connection, by all of its bytes and by whether it had begun before them
pub record IsConnection (begun : Bool) (bytes : List ℕ) (turns : List TurnValue) : Type 0 where
  pub messages : List FrameValue
  pub end : FrameCutValue
  pub rest : List ℕ
  pub stream : IsStream bytes messages end rest
  pub are : turns ≡ turns_of begun messages end

-- ---- the turns of a reader

-- a turn is done, and others may follow
abbrev pub GoesOn : TurnValue → Type 0
GoesOn waits = ⊥
GoesOn begins = ⊤
GoesOn passes = ⊤
GoesOn (answers bytes) = ⊤
GoesOn (serves f) = ⊤
GoesOn aborts = ⊥
GoesOn closes = ⊥

-- turns are taken and done one by one, until more is waited for; this is buffered then
abbrev pub AreTaken : StreamValue → List TurnValue → StreamValue → Type 0
AreTaken s [] left = (turn_at s.begun s.bytes ≡ waits) × (left ≡ s)
AreTaken s (turn ∷ turns) left = (turn_at s.begun s.bytes ≡ turn) × GoesOn turn × AreTaken (behind s) turns left

-- the same until one ends the connection
abbrev pub AreLast : StreamValue → List TurnValue → Type 0
AreLast s [] = ⊥
AreLast s (turn ∷ turns) =
    (turn_at s.begun s.bytes ≡ turn)
    × (((is_last turn ≡ true) × (turns ≡ [])) ⊎ (GoesOn turn × AreLast (behind s) turns))

-- what a reader takes who has some bytes buffered and gets the others in pieces, and takes what is whole before each piece
abbrev pub AreRead : StreamValue → List (List ℕ) → List TurnValue → Type 0
AreRead s [] turns = AreLast s turns ⊎ ((left : StreamValue) × AreTaken s turns left)
AreRead s (piece ∷ pieces) turns =
    AreLast s turns
    ⊎ ((first : List TurnValue) × (left : StreamValue) × (later : List TurnValue)
    × AreTaken s first left × AreRead (with_piece piece left) pieces later × (turns ≡ first ++ later))
