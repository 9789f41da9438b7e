-- What sockets for datagrams gave and took.
use Rattle.std.specs.Prelude.{◌≡◌, ◌≢◌, ℕ, ◌+◌, ◌-◌, ◌<◌, Bool, true, false, List, [], ◌∷◌, length, take, drop, position, Option, None, Some, unwrap_or, ⊤}
use mathlib.Core.Bool.{beq}
use Rattle.std.specs.List.{slice_get, sum_by}
use Rattle.std.specs.Net.Socket.{socket_ip}
use Rattle.std.specs.Net.Addr.{is_ipv6}
use Rattle.dots_edge.specs.declared.way.Way.{Way}
use Rattle.dots_host.specs.declared.event.What.{What}
use Rattle.dots_host.specs.declared.event.What.TheVariants as what
use Rattle.dots_host.specs.declared.out.Sent.{Sent}
use Rattle.dots_host.specs.declared.out.Sent.TheVariants as sent
use Rattle.dots_edge.specs.declared.answer.Answer.TheVariants as answer
use Rattle.dots_edge.specs.declared.socket_log.SocketLog.{SocketLog}
use Rattle.dots_edge.specs.declared.signal.Signal.{Signal}
use Rattle.dots_edge.specs.declared.signal.Received.{Received}
use Rattle.dots_edge.specs.declared.signal.Received.TheVariants as received
use Rattle.dots_edge.specs.declared.sockets.Sockets.{Sockets}
use Rattle.dots_edge.specs.Answers.{is_exhausted, has_failed, IsLast}
use Rattle.dots_edge.specs.Logs.{IsNext, IfBoth}

-- the socket of the place was asked once, and what it answered is what is received: its bytes stand at the front of the room
abbrev pub HasReceived : Received → ℕ → List ℕ → SocketLog → SocketLog → Type 0
HasReceived (received.Datagram len from via) place room old new = (via ≡ place) × IsNext old (answer.Went len) (take len room) new
HasReceived received.Nothing place room old new = IsNext old answer.Nothing [] new
HasReceived received.Again place room old new = IsNext old answer.Again [] new

-- the socket was handed the bytes once; they are sent exactly where it took all of them
abbrev pub HasSent : Sent → List ℕ → SocketLog → SocketLog → Type 0
HasSent sent.Done bytes old new = IsNext old (answer.Went (length bytes)) bytes new
HasSent sent.Lost bytes old new = (length new.answers ≡ length old.answers + 1) × (new.answers ≡ answer.Went (length bytes) ∷ old.answers → ⊥)

abbrev pub signal_at : Sockets → ℕ → Option Signal
signal_at sockets place = slice_get sockets.signals.items place

-- the one of which a datagram was asked last, behind which the turn is
abbrev pub last_asked : Sockets → ℕ
last_asked sockets = sockets.signal_turn - 1

-- how often datagrams were asked for
abbrev pub times_asked : Sockets → ℕ
times_asked sockets = sum_by (λ (signal : Signal). length signal.came.answers) sockets.signals.items

-- the socket at the place was asked, and gave what is received
abbrev pub HasReceivedAt : Received → ℕ → List ℕ → Sockets → Sockets → Type 0
HasReceivedAt received place room old new =
    IfBoth (signal_at old place) (signal_at new place) (λ before after. HasReceived received place room before.came after.came)

-- the socket at the place was asked, and failed
abbrev pub HasFailedAt : ℕ → Sockets → Sockets → Type 0
HasFailedAt place old new = IfBoth (signal_at old place) (signal_at new place) (λ before after. IsNext before.came answer.Failed [] after.came)

-- where something is received, or may be, this holds
abbrev pub IsSomething : Received → Type 0 → Type 0
IsSomething received.Nothing P = ⊤
IsSomething _ P = P

-- What the sockets were asked. Nothing waits where each of them was found empty, and else the last one that was asked gave what is received.
abbrev pub HasAsked : Received → List ℕ → Sockets → Sockets → Type 0
HasAsked received.Nothing room old new =
    (place : ℕ) → place < length old.signals.items → HasReceivedAt received.Nothing place room old new
HasAsked found room old new = HasReceivedAt found (last_asked new) room old new

-- the last one that was asked failed
abbrev pub HasFailed : Sockets → Sockets → Type 0
HasFailed old new = HasFailedAt (last_asked new) old new

-- whether the socket there had no datagram when it was asked last
abbrev pub is_empty_at : Option Signal → Bool
is_empty_at None = true
is_empty_at (Some signal) = is_exhausted signal.came.answers

-- none of the sockets had a datagram when it was asked last
abbrev pub AreEmpty : List Signal → Type 0
AreEmpty signals = (place : ℕ) → is_empty_at (slice_get signals place) ≡ true

abbrev pub has_failed_at : Option Signal → Bool
has_failed_at None = false
has_failed_at (Some signal) = has_failed signal.came.answers

-- where a datagram came, this holds of its sender and of how many bytes it has
abbrev pub OnDatagram : Option What → (ℕ → ℕ → Type 0) → Type 0
OnDatagram (Some (what.Datagram from len)) P = P from len
OnDatagram _ P = ⊤

-- the last call of the socket gave a datagram of these bytes
abbrev pub GaveLast : Option Signal → List ℕ → Type 0
GaveLast None bytes = ⊥
GaveLast (Some signal) bytes =
    IsLast (answer.Went (length bytes)) signal.came.answers × (drop (length signal.came.bytes - length bytes) signal.came.bytes ≡ bytes)

-- ---- what is sent

-- whether the socket is for the family, IPv6 or IPv4
abbrev pub is_for : Bool → Signal → Bool
is_for v6 signal = beq signal.is_v6 v6

-- the place of the socket of the way, or of the first one for its family, or 0
abbrev pub place_of : Way → List Signal → ℕ
place_of way signals = unwrap_or way.via (unwrap_or (position (is_for (is_ipv6 (socket_ip way.to))) signals) 0)

-- What a send at a place leaves: it is lost where no socket is there, and else is what the socket took.
abbrev pub IsSentFrom : Sent → List ℕ → Option Signal → Option Signal → Type 0
IsSentFrom sent bytes (Some old) (Some new) = HasSent sent bytes old.taken new.taken × (new ≡ record old { taken = new.taken })
IsSentFrom sent.Lost bytes None None = ⊤
IsSentFrom _ bytes _ _ = ⊥

-- all sockets beside that of the place are as before
abbrev pub SameSignalsBeside : Sockets → ℕ → Sockets → Type 0
SameSignalsBeside old place new = (other : ℕ) → other ≢ place → signal_at new other ≡ signal_at old other
