-- What becomes of what is sent on a connection.
use Rattle.std.specs.Prelude.{◌≡◌, ℕ, ◌+◌, ◌≤◌, ◌⊎◌, true, false, List, [], ◌∷◌, ◌++◌, length}
use Rattle.std.specs.declared.time.Duration.{Duration}
use Rattle.dots_edge.specs.declared.answer.Answer.TheVariants as answer
use Rattle.dots_edge.specs.declared.connection.Connection.{Connection}
use Rattle.dots_edge.specs.declared.connection.Piece.{Piece}
use Rattle.dots_edge.specs.declared.connection.Piece.TheVariants as piece

-- what was sent on it: the bytes that its socket took, and behind them those that are kept
abbrev pub all_sent : Connection → List ℕ
all_sent connection = connection.taken.bytes ++ connection.rest.bytes.items

-- the socket took some of what was kept, its first bytes, or none; the others are still kept
abbrev pub TookOn : Connection → Connection → Type 0
TookOn old new = (all_sent new ≡ all_sent old) × (length old.taken.bytes ≤ length new.taken.bytes)

-- these were sent behind all others; of what was kept and of these the socket took the first bytes, or none, and the others are kept
abbrev pub TookOrRests : Connection → List ℕ → Connection → Type 0
TookOrRests old bytes new = (all_sent new ≡ all_sent old ++ bytes) × (length old.taken.bytes ≤ length new.taken.bytes)

-- it is of no use any more, and nothing is kept
abbrev pub IsLost : Connection → Type 0
IsLost connection = (connection.broken ≡ true) × (connection.rest.bytes.items ≡ [])

-- What a turn leaves of what was kept, where none of it is lost: a byte of it went now, or none did. The connection ends exactly where the server has
-- closed it and nothing is kept any more.
pub record HasWrittenOn (result : Piece) (now : Duration) (old new : Connection) : Type 0 where
  pub unbroken : new.broken ≡ false
  pub took : TookOn old new
  pub moved : (new.moved ≡ now) ⊎ ((new.moved ≡ old.moved) × (new.rest.bytes.items ≡ old.rest.bytes.items))
  pub ends : result ≡ piece.Ended → (new.closing ≡ true) × (new.rest.bytes.items ≡ [])
  pub ended : new.closing ≡ true → new.rest.bytes.items ≡ [] → result ≡ piece.Ended
  pub same : (new.asked ≡ old.asked) × (new.ready ≡ old.ready)

-- A turn wrote once. It gives nothing exactly where the socket took nothing, and then waits until it may take some.
abbrev pub HasTried : Piece → Connection → Connection → Type 0
HasTried piece.Nothing old new = (new.taken.answers ≡ answer.Nothing ∷ old.taken.answers) × (new.takes ≡ false)
HasTried _ old new = length new.taken.answers ≡ length old.taken.answers + 1

-- the socket took all of the bytes at one call
abbrev pub TookAll : Connection → List ℕ → Connection → Type 0
TookAll old bytes new = new.taken.answers ≡ answer.Went (length bytes) ∷ old.taken.answers
