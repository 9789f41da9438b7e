-- What is counted of the calls of a wire. Each count is how many of the calls have a property.
use Rattle.std.specs.Prelude.{ℕ, ◌+◌, ◌-◌, ◌^◌, ◌==◌, min, Bool, true, false, not, nat_le, ◌&&◌, length, if◌then◌else◌, List, take, drop, slice_get, count_by, bytes_eq, codes, Option, Some, None, ◌≡◌, ◌<◌, get_or, fold}
use Rattle.dots_lists.specs.Numbers.{number_in}
use Rattle.dots_host.specs.declared.act.Act.{Act}
use Rattle.dots_host.specs.declared.act.Act.TheVariants as act
use Rattle.dots_host.specs.declared.event.Event.TheVariants as event
use Rattle.dots_host.specs.declared.out.OwnedOut.TheVariants as owned

-- ---- what a call is

-- an event was handed in
abbrev pub is_event : Act → Bool
is_event (act.Took event at) = true
is_event _ = false

-- a datagram came
abbrev pub is_datagram : Act → Bool
is_datagram (act.Took (event.Datagram from bytes) at) = true
is_datagram _ = false

-- A datagram came from nobody whose address is known: a host of sockets hands in all of those under one number.
abbrev pub is_stranger : Act → Bool
is_stranger (act.Took (event.Datagram from bytes) at) = from == 4294967295
is_stranger _ = false

-- a peer opened a connection
abbrev pub is_opening : Act → Bool
is_opening (act.Took (event.Opened conn from) at) = true
is_opening _ = false

-- a send was lost
abbrev pub is_loss : Act → Bool
is_loss (act.Gave out done) = not done
is_loss _ = false

-- the code of a datagram that was sent: the second byte of a message (RFC 7252, section 3)
abbrev pub code_of : Act → Option ℕ
code_of (act.Gave (owned.To peer bytes) done) = slice_get bytes 1
code_of _ = None

-- the bytes begin with the version and a space, and three more stand behind them
abbrev pub has_status : List ℕ → Bool
has_status bytes = nat_le 12 (length bytes) && bytes_eq (take 9 bytes) (codes "HTTP/1.1 ")

-- the status in the status line that bytes begin with: three digits behind the version and a space (RFC 9112, section 4)
abbrev pub status_in : List ℕ → Option ℕ
status_in bytes = if has_status bytes then number_in 100 599 (take 3 (drop 9 bytes)) else None

-- the status of a reply that was sent on a connection
abbrev pub status_of : Act → Option ℕ
status_of (act.Gave (owned.Conn conn bytes) done) = status_in bytes
status_of _ = None

abbrev pub is_the : ℕ → Option ℕ → Bool
is_the number None = false
is_the number (Some found) = found == number

-- ---- counts

-- a count stands still at its type's end
abbrev pub one_more : ℕ → ℕ
one_more count = min (count + 1) (2 ^ 64 - 1)

abbrev pub more_if : Bool → ℕ → ℕ
more_if counts count = if counts then one_more count else count

-- how many of the calls are so
abbrev pub counted : (Act → Bool) → List Act → ℕ
counted is calls = min (count_by is calls) (2 ^ 64 - 1)

-- how many datagrams were sent with the code
abbrev pub with_code : ℕ → List Act → ℕ
with_code code calls = counted (λ call. is_the code (code_of call)) calls

-- how many replies with the status were sent on connections
abbrev pub with_status : ℕ → List Act → ℕ
with_status status calls = counted (λ call. is_the status (status_of call)) calls

abbrev pub time_at : ℕ → Act → ℕ
time_at time (act.Took event at) = at
time_at time _ = time

-- the time beside the last event, or 0 where none came
abbrev pub last_time : List Act → ℕ
last_time calls = fold time_at 0 calls

-- ---- tables

-- the table counts by the numbers below its size
abbrev pub AreCounted : (ℕ → List Act → ℕ) → ℕ → List ℕ → List Act → Type 0
AreCounted by size table calls = (length table ≡ size) × ((number : ℕ) → number < size → get_or table number 0 ≡ by number calls)
