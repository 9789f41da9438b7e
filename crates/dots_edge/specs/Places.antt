-- The places of the connections, and which are open for the server.
use Rattle.std.specs.Prelude.{◌≡◌, ◌≢◌, ℕ, ◌<◌, ◌≤◌, ◌⊎◌, ◌&&◌, Bool, true, false, not, List, ◌++◌, Option, Some, None, is_some, IfSome, nat_lt, get_or, if◌then◌else◌, ⊤}
use Rattle.std.specs.Duration.{as_nanos}
use Rattle.dots_host.specs.declared.out.Out.{Out}
use Rattle.dots_host.specs.declared.out.Out.TheVariants as out
use Rattle.dots_host.specs.declared.out.Sent.{Sent}
use Rattle.dots_host.specs.declared.out.Sent.TheVariants as sent
use Rattle.dots_host.specs.declared.event.What.{What}
use Rattle.dots_host.specs.declared.event.What.TheVariants as what
use Rattle.std.specs.declared.time.Duration.{Duration}
use Rattle.dots_edge.specs.declared.connection.Connection.{Connection}
use Rattle.dots_edge.specs.Passing.{is_stale}
use Rattle.dots_edge.specs.Sends.{TookOrRests, IsLost}
use Rattle.dots_edge.specs.Idle.{is_unwritten, idle_at, is_spent, WasTried}
use Rattle.dots_edge.specs.declared.connections.Connections.{Connections}

-- the connection at the place, where one is
abbrev pub at_place : Connections → ℕ → Option Connection
at_place all place = get_or all.places.items place None

-- whether a connection is there that the server hasn't closed
abbrev pub is_opened : Option Connection → Bool
is_opened None = false
is_opened (Some connection) = not connection.closing

-- whether the connection of the number is open for the server
abbrev pub is_open : Connections → ℕ → Bool
is_open all place = is_opened (at_place all place)

-- when a connection last moved that the server has closed
abbrev pub closing_since : Option Connection → Option Duration
closing_since None = None
closing_since (Some connection) = if connection.closing then Some connection.moved else None

-- no place is free
abbrev pub AreTaken : Connections → ℕ → Type 0
AreTaken all count = (place : ℕ) → place < count → is_some (at_place all place) ≡ true

-- which moved first, with its place: what did so far, or one more
abbrev pub first_of : Option (ℕ × Duration) → ℕ → Option Duration → Option (ℕ × Duration)
first_of first place None = first
first_of None place (Some since) = Some (place, since)
first_of (Some first) place (Some since) = if nat_lt (as_nanos since) (as_nanos first.1) then Some (place, since) else Some first

-- each connection among the first so many that the server has closed moved at this time or later
abbrev pub MovedSince : Connections → ℕ → Duration → Type 0
MovedSince all count first = (other : ℕ) → other < count → IfSome (closing_since (at_place all other)) (λ moved. as_nanos first ≤ as_nanos moved)

-- where the server has closed the connection of the place, it moved longest ago of all that it has closed
abbrev pub MovedFirst : Connections → ℕ → Type 0
MovedFirst all place = IfSome (closing_since (at_place all place)) (λ first. MovedSince all 128 first)

-- none among the first so many is one that the server has closed
abbrev pub NoneCloses : Connections → ℕ → Type 0
NoneCloses all count = (other : ℕ) → other < count → closing_since (at_place all other) ≡ None

-- of those among the first so many that the server has closed, this one moved first; none where there is none
abbrev pub IsFirst : Connections → ℕ → Option (ℕ × Duration) → Type 0
IsFirst all count None = NoneCloses all count
IsFirst all count (Some first) = (first.0 < 128) × (closing_since (at_place all first.0) ≡ Some first.1) × MovedSince all count first.1

-- A place for one connection more: one where none is, and where each has one, that of the connection that moved longest ago of those that the
-- server has closed.
abbrev pub IsForOneMore : Connections → ℕ → Type 0
IsForOneMore all place = (is_open all place ≡ false) × (is_some (at_place all place) ≡ true → AreTaken all 128) × MovedFirst all place

-- each place has a connection that is open for the server
abbrev pub AreOpen : Connections → Type 0
AreOpen all = (place : ℕ) → place < 128 → is_open all place ≡ true

-- no connection is open for the server
abbrev pub NoneOpen : Connections → Type 0
NoneOpen all = (conn : ℕ) → is_open all conn ≡ false

-- at all other places everything is as before
abbrev pub SameBeside : Connections → ℕ → Connections → Type 0
SameBeside old place new = (other : ℕ) → other ≢ place → at_place new other ≡ at_place old other

-- a connection that wasn't open for the server is opened at the place, and nothing else changes
abbrev pub OpensAt : Connections → Connections → ℕ → Type 0
OpensAt old new place = (is_open old place ≡ false) × (is_open new place ≡ true) × SameBeside old place new

-- where a new connection is handed in, this holds of its number
abbrev pub OnOpened : Option What → (ℕ → Type 0) → Type 0
OnOpened (Some (what.Opened conn from)) P = P conn
OnOpened _ P = ⊤

-- the same connections are open for the server
abbrev pub SameOpen : Connections → Connections → Type 0
SameOpen old new = (conn : ℕ) → is_open new conn ≡ is_open old conn

-- of all others it is as before whether they are open for the server
abbrev pub OthersStay : Connections → ℕ → Connections → Type 0
OthersStay old conn new = (other : ℕ) → other ≢ conn → is_open new other ≡ is_open old other

-- a connection that was open for the server isn't any more
abbrev pub ClosesAt : Connections → Connections → ℕ → Type 0
ClosesAt old new conn = (is_open old conn ≡ true) × (is_open new conn ≡ false) × OthersStay old conn new

-- What an event leaves of the connections that are open for the server: one that is opened wasn't, one that is closed was, bytes come on one that is,
-- and of all others it is as before.
abbrev pub Follows : Option What → Connections → Connections → Type 0
Follows (Some (what.Opened conn from)) old new =
    (is_open old conn ≡ false) × (is_open new conn ≡ true) × OthersStay old conn new × (conn < 128)
Follows (Some (what.Closed conn)) old new = ClosesAt old new conn
Follows (Some (what.Piece conn len)) old new = (is_open old conn ≡ true) × SameOpen old new
Follows _ old new = SameOpen old new

-- What a send leaves of the connections that are open for the server: one that it closes isn't any more, and of all others it is as before. What
-- is done was so on a connection that is open.
abbrev pub IsGiven : Out → Sent → Connections → Connections → Type 0
IsGiven (out.Close conn) sent.Done old new = ClosesAt old new conn
IsGiven (out.Close conn) sent.Lost old new = (is_open old conn ≡ false) × SameOpen old new
IsGiven (out.Conn conn bytes) sent.Done old new = (is_open old conn ≡ true) × SameOpen old new
IsGiven (out.Conn conn bytes) sent.Lost old new = SameOpen old new
IsGiven (out.To peer bytes) _ old new = SameOpen old new

-- ---- what is done at a place

-- something may have come, or the socket may take more
abbrev pub marked : Option Connection → Option Connection
marked None = None
marked (Some connection) = Some (record connection { ready = true; takes = true })

-- whether something is kept there
abbrev pub unwritten_at : Option Connection → Bool
unwritten_at None = false
unwritten_at (Some connection) = is_unwritten connection

-- whether it was idle there or left its sender without an answer for too long
abbrev pub stale_at : Duration → Option Connection → Bool
stale_at now None = false
stale_at now (Some connection) = is_stale connection.moved connection.asked now

-- what is kept is tried again
abbrev pub retried : Option Connection → Option Connection
retried place = if unwritten_at place then marked place else place

-- a connection that is stale goes, and what is kept of any other is tried again
abbrev pub swept : Duration → Option Connection → Option Connection
swept now place = if stale_at now place then None else retried place

-- a stale connection there is open for the server
abbrev pub ends_at : Duration → Option Connection → Bool
ends_at now place = stale_at now place && is_opened place

-- The places from the one to the other were swept, and all others are as before.
abbrev pub AreSwept : Connections → Duration → ℕ → ℕ → Connections → Type 0
AreSwept old now from to new = (place : ℕ) →
    (from ≤ place → place < to → at_place new place ≡ swept now (at_place old place))
    × ((place < from) ⊎ (to ≤ place) → at_place new place ≡ at_place old place)

-- none from the one place to the other that is open for the server is stale
abbrev pub NoneEnds : Connections → Duration → ℕ → ℕ → Type 0
NoneEnds all now from to = (place : ℕ) → from ≤ place → place < to → ends_at now (at_place all place) ≡ false

-- each connection was tried of which something could be done
abbrev pub AreTried : Connections → Connections → Type 0
AreTried old new = (place : ℕ) → place < 128 → WasTried (at_place old place) (at_place new place)

-- nothing can be done of any connection until a wait tells of it
abbrev pub AreIdle : Connections → Type 0
AreIdle all = (place : ℕ) → place < 128 → idle_at (at_place all place) ≡ true

-- the sockets of all connections had nothing to read when they were read last, or took nothing of what is kept
abbrev pub AreSpent : Connections → Type 0
AreSpent all = (place : ℕ) → place < 128 → is_spent (at_place all place) ≡ true

-- the socket there was read once, and gave these bytes
abbrev pub CameAt : Option Connection → List ℕ → Option Connection → Type 0
CameAt (Some old) bytes (Some new) = new.came.bytes ≡ old.came.bytes ++ bytes
CameAt _ bytes _ = ⊥

-- where bytes came, this holds of the number and of how many they are
abbrev pub OnPiece : Option What → (ℕ → ℕ → Type 0) → Type 0
OnPiece (Some (what.Piece conn len)) P = P conn len
OnPiece _ P = ⊤

-- What a send at a place leaves. What is done goes behind all that was sent before, and what the socket hasn't taken of it is kept. Where it is lost no
-- connection is open for the server there, and nothing changes, or the connection is of no use any more.
abbrev pub IsSentAt : Option Connection → List ℕ → Sent → Option Connection → Type 0
IsSentAt (Some old) bytes sent.Done (Some new) = (old.closing ≡ false) × TookOrRests old bytes new
IsSentAt (Some old) bytes sent.Lost (Some new) = ((old.closing ≡ true) × (new ≡ old)) ⊎ IsLost new
IsSentAt None bytes sent.Lost None = ⊤
IsSentAt _ bytes _ _ = ⊥

-- where something is kept it closes once that is written, and else at once
abbrev pub closed_at : Option Connection → Option Connection
closed_at None = None
closed_at (Some connection) =
    if connection.closing then Some connection else (if is_unwritten connection then Some (record connection { closing = true }) else None)
