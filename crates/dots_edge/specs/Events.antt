-- What a part of the host hands in.
use Rattle.std.specs.Prelude.{◌≡◌, ℕ, ◌≤◌, ◌<◌, ◌⊎◌, false, List, ◌∷◌, ◌++◌, length, take, Some, unwrap_or, ⊤}
use Rattle.std.specs.declared.time.Duration.{Duration}
use Rattle.dots_edge.specs.declared.connection.Connection.{Connection}
use Rattle.dots_edge.specs.declared.answer.Answer.TheVariants as answer
use Rattle.dots_edge.specs.declared.socket_log.SocketLog.{SocketLog}
use Rattle.dots_edge.specs.declared.connection.Piece.{Piece}
use Rattle.dots_edge.specs.declared.connection.Piece.TheVariants as piece
use Rattle.dots_edge.specs.declared.signal.Received.{Received}
use Rattle.dots_edge.specs.declared.signal.Received.TheVariants as received

-- no more bytes than the room has
abbrev pub IsPiece : Piece → ℕ → Type 0
IsPiece (piece.Bytes count) room = count ≤ room
IsPiece _ room = ⊤

abbrev pub IsReceived : Received → ℕ → Type 0
IsReceived (received.Datagram len from via) room = len ≤ room
IsReceived _ room = ⊤

-- the times of the connection are as before
abbrev pub KeepsTimes : Connection → Connection → Type 0
KeepsTimes old new = (new.moved ≡ old.moved) × (new.asked ≡ old.asked)

-- What a read leaves. Bytes came now, and wait for an answer since the first that had none. Or nothing is there until a wait tells of it.
abbrev pub AfterRead : Piece → Duration → Connection → Connection → Type 0
AfterRead (piece.Bytes count) now old new = (new.moved ≡ now) × (new.asked ≡ Some (unwrap_or old.asked now)) × (new.ready ≡ old.ready)
AfterRead piece.Nothing now old new = KeepsTimes old new × (new.ready ≡ false)
AfterRead piece.Again now old new = KeepsTimes old new × (new.ready ≡ old.ready)
AfterRead piece.Ended now old new = ⊤

-- where bytes came, this holds
abbrev pub OnBytes : Piece → Type 0 → Type 0
OnBytes (piece.Bytes count) P = P
OnBytes _ P = ⊤

-- where no bytes came, this holds
abbrev pub OnNoBytes : Piece → Type 0 → Type 0
OnNoBytes (piece.Bytes count) P = ⊤
OnNoBytes _ P = P

-- no byte came since, though the socket may have been asked
abbrev pub SameCame : SocketLog → SocketLog → Type 0
SameCame old new = (new.bytes ≡ old.bytes) × (length old.answers ≤ length new.answers)

-- where bytes came, this holds of how many they are
abbrev pub IfBytes : Piece → (ℕ → Type 0) → Type 0
IfBytes (piece.Bytes count) P = P count
IfBytes _ P = ⊤

-- The socket was read once, and what it answered is what the read gives: its bytes stand at the front of the room. No bytes, or a failure, are the end.
abbrev pub HasRead : Piece → List ℕ → Connection → Connection → Type 0
HasRead (piece.Bytes count) room old new =
    (0 < count) × (new.came.answers ≡ answer.Went count ∷ old.came.answers) × (new.came.bytes ≡ old.came.bytes ++ take count room)
HasRead piece.Nothing room old new = (new.came.answers ≡ answer.Nothing ∷ old.came.answers) × (new.came.bytes ≡ old.came.bytes)
HasRead piece.Again room old new = (new.came.answers ≡ answer.Again ∷ old.came.answers) × (new.came.bytes ≡ old.came.bytes)
HasRead piece.Ended room old new =
    ((new.came.answers ≡ answer.Went 0 ∷ old.came.answers) ⊎ (new.came.answers ≡ answer.Failed ∷ old.came.answers))
    × (new.came.bytes ≡ old.came.bytes)
