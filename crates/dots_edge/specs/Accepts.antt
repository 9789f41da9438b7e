-- What sockets for connections gave.
use Rattle.std.specs.Prelude.{◌≡◌, ◌≢◌, ◌⊎◌, ℕ, ◌-◌, ◌<◌, Bool, true, List, [], length, Option, None, Some, ⊤}
use Rattle.std.specs.List.{slice_get, sum_by}
use Rattle.std.specs.declared.net.socket_addr.SocketAddr.{SocketAddr}
use Rattle.dots_edge.specs.declared.answer.Answer.TheVariants as answer
use Rattle.dots_edge.specs.declared.socket_log.SocketLog.{SocketLog}
use Rattle.dots_edge.specs.declared.listener.Listener.{Listener}
use Rattle.dots_edge.specs.declared.listener.Accepted.{Accepted}
use Rattle.dots_edge.specs.declared.listener.Accepted.TheVariants as accepted
use Rattle.dots_edge.specs.declared.sockets.Sockets.{Sockets}
use Rattle.dots_edge.specs.Answers.{is_exhausted}
use Rattle.dots_edge.specs.Logs.{IsNext, IfBoth}

-- the socket was asked once, and what it answered is what is taken
abbrev pub HasTaken : Accepted → SocketLog → SocketLog → Type 0
HasTaken (accepted.Stream stream from) old new = IsNext old (answer.Went 0) [] new
HasTaken accepted.Nothing old new = IsNext old answer.Nothing [] new
HasTaken accepted.Again old new = IsNext old answer.Again [] new
HasTaken accepted.Stuck old new = IsNext old answer.Failed [] new

-- the same of what is accepted: a connection that was taken may be gone before waits tell of it
abbrev pub HasGiven : Accepted → SocketLog → SocketLog → Type 0
HasGiven accepted.Again old new = IsNext old answer.Again [] new ⊎ IsNext old (answer.Went 0) [] new
HasGiven found old new = HasTaken found old new

abbrev pub listener_at : Sockets → ℕ → Option Listener
listener_at sockets place = slice_get sockets.listeners.items place

-- the one of which a connection was asked last, behind which the turn is
abbrev pub last_listener : Sockets → ℕ
last_listener sockets = sockets.listener_turn - 1

-- the socket at the place was asked, and gave what is accepted
abbrev pub HasGivenAt : Accepted → ℕ → Sockets → Sockets → Type 0
HasGivenAt found place old new =
    IfBoth (listener_at old place) (listener_at new place) (λ before after. HasGiven found before.came after.came)

-- all sockets beside that of the place are as before
abbrev pub SameListenersBeside : Sockets → ℕ → Sockets → Type 0
SameListenersBeside old place new = (other : ℕ) → other ≢ place → listener_at new other ≡ listener_at old other

-- a connection that was taken is accepted, or it is gone
abbrev pub IsAdmitted : Accepted → SocketAddr → Type 0
IsAdmitted (accepted.Stream stream from) taken = from ≡ taken
IsAdmitted accepted.Again taken = ⊤
IsAdmitted _ taken = ⊥

-- What the sockets were asked. No connection waits where each of them was found empty, and else the last one that was asked gave what is accepted.
abbrev pub HasAccepted : Accepted → Sockets → Sockets → Type 0
HasAccepted accepted.Nothing old new =
    (place : ℕ) → place < length old.listeners.items → HasGivenAt accepted.Nothing place old new
HasAccepted found old new = HasGivenAt found (last_listener new) old new

-- how often connections were asked for
abbrev pub times_tried : Sockets → ℕ
times_tried sockets = sum_by (λ (listener : Listener). length listener.came.answers) sockets.listeners.items

-- where a connection is accepted, or may be, this holds
abbrev pub IsAny : Accepted → Type 0 → Type 0
IsAny accepted.Nothing P = ⊤
IsAny _ P = P

-- whether no connection waited at the socket there when it was asked last
abbrev pub is_quiet_at : Option Listener → Bool
is_quiet_at None = true
is_quiet_at (Some listener) = is_exhausted listener.came.answers

-- no connection waited at any of the sockets when it was asked last
abbrev pub AreQuiet : List Listener → Type 0
AreQuiet listeners = (place : ℕ) → is_quiet_at (slice_get listeners place) ≡ true
