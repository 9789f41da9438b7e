-- Why a connection goes, and what is known of those that stay.
use Rattle.std.specs.Prelude.{◌≡◌, ◌<◌, ◌⊎◌, ℕ, true, List, take, Option, Some, None}
use Rattle.std.specs.declared.time.Duration.{Duration}
use Rattle.dots_host.specs.declared.event.What.{What}
use Rattle.dots_host.specs.declared.event.What.TheVariants as what
use Rattle.dots_edge.specs.declared.connection.Connection.{Connection}
use Rattle.dots_edge.specs.declared.connections.Connections.{Connections}
use Rattle.dots_edge.specs.declared.gone.Gone.{Gone}
use Rattle.dots_edge.specs.Answers.{HasEnded}
use Rattle.dots_edge.specs.Events.{SameCame}
use Rattle.dots_edge.specs.Logs.{IfBoth}
use Rattle.dots_edge.specs.Passing.{is_stale}
use Rattle.dots_edge.specs.Places.{at_place, is_opened, CameAt}

-- what is known of a connection once it went
abbrev pub gone_of : Connection → Gone
gone_of connection = record {
  came = connection.came;
  moved = connection.moved;
  asked = connection.asked;
  broken = connection.broken;
}

-- the connection there is the one that went
abbrev pub WentFrom : Option Connection → Gone → Type 0
WentFrom None gone = ⊥
WentFrom (Some connection) gone = gone ≡ gone_of connection

-- it broke, or its socket is at its end or failed
abbrev pub HasStopped : Option Connection → Type 0
HasStopped None = ⊥
HasStopped (Some connection) = (connection.broken ≡ true) ⊎ HasEnded connection.came.answers

-- Why it went: a send of it was lost, its socket was at its end or failed at the last read, or it was idle or left its sender without an answer for
-- too long.
abbrev pub IsOver : Gone → Duration → Type 0
IsOver gone now = (gone.broken ≡ true) ⊎ (HasEnded gone.came.answers ⊎ (is_stale gone.moved gone.asked now ≡ true))

-- the connection that was there is over, and no byte came on it before
abbrev pub HasGone : Option Connection → Gone → Duration → Type 0
HasGone None gone now = ⊥
HasGone (Some old) gone now = SameCame old.came gone.came × IsOver gone now

-- What connections give at a time. A piece has all the bytes that the socket of its connection gave since, and has some. A connection that closed is
-- over, and no byte came on it since.
abbrev pub HasComeOn : What → List ℕ → Connections → Connections → Duration → Type 0
HasComeOn (what.Piece conn len) room old new now = (0 < len) × CameAt (at_place old conn) (take len room) (at_place new conn)
HasComeOn (what.Closed conn) room old new now = HasGone (at_place old conn) new.gone now
HasComeOn _ room old new now = ⊥

-- a connection that is open for the server was so before, and no byte came on it
abbrev pub GoesOn : Option Connection → Option Connection → Type 0
GoesOn old new = is_opened new ≡ true → (is_opened old ≡ true) × IfBoth old new (λ before after. SameCame before.came after.came)

-- the same of all connections
abbrev pub AreOn : Connections → Connections → Type 0
AreOn old new = (place : ℕ) → GoesOn (at_place old place) (at_place new place)
