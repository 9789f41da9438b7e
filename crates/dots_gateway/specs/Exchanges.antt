-- The exchanges of a gateway, and what the time does to them. An exchange is a request of a client, with the number under which
-- it was passed on. Times are in seconds.
use Rattle.std.specs.Prelude.{◌≡◌, ℕ, ◌+◌, ◌-◌, ◌%◌, ◌^◌, ◌<◌, ◌≤◌, Bool, not, ◌&&◌, ◌||◌, ◌==◌, nat_le, max, List, [], ◌∷◌, ◌++◌, length, map, filter, bytes_eq, slice_get, Some, None}
use Rattle.std.specs.Int.{w64, to_be_bytes}
use Rattle.coap_message.specs.declared.kind.Kind.{Kind}
use Rattle.coap_message.specs.declared.kind.Kind.TheVariants.{Con}
use Rattle.coap_message.specs.Message.{CoapMessage}
use Rattle.dots_history.specs.declared.entry.MessageKey.{MessageKey}
use Rattle.dots_history.specs.declared.entry.MessageKey.TheVariants as key
use Rattle.dots_gateway.specs.declared.exchange.Exchange.{Exchange}
use Rattle.dots_gateway.specs.declared.exchange.Key.{Key}
use Rattle.dots_gateway.specs.declared.exchange.Waiting.{Waiting}

-- those that wait, in the order of their numbers; how many there may be; the number of the next one; and the time
pub record ExchangesValue : Type 0 where
  pub room : ℕ
  pub next : ℕ
  pub time : ℕ
  pub waiting : List Waiting

-- ---- the time

-- An exchange waits for 247 seconds: as long as its Message ID may not mean another request, were it confirmable (RFC 7252, section 4.8.2).
abbrev pub is_over : ℕ → Waiting → Bool
is_over now k = nat_le (k.exchange.time + 247) now

abbrev pub left_at : ℕ → List Waiting → List Waiting
left_at now waiting = filter (λ (k : Waiting). not (is_over now k)) waiting

-- The time doesn't fall: it is the greater of the time handed in and the time before.
abbrev pub at_time : ℕ → ExchangesValue → ExchangesValue
at_time now e = record e { time = max now e.time; waiting = left_at (max now e.time) e.waiting }

-- ---- one more

-- no number is left, or as many wait as there may be
abbrev pub is_full : ExchangesValue → Bool
is_full e = nat_le e.room (length e.waiting) || e.next == 2 ^ 64 - 1

-- the type and the Message ID of a request
abbrev pub key_for : Kind → ℕ → MessageKey
key_for Con id = key.Con id
key_for _ id = key.Non id

-- the exchange of a client's request, with the next number
abbrev pub exchange_for : ExchangesValue → ℕ → CoapMessage → Exchange
exchange_for e peer m = record { number = e.next; peer = peer; key = key_for m.kind m.identifier; token = m.token; time = e.time }

-- it waits beside the datagram that asked
abbrev pub with_one : Exchange → List ℕ → ExchangesValue → ExchangesValue
with_one exchange datagram e = record e { next = e.next + 1; waiting = e.waiting ++ record { exchange = exchange; asked = Some datagram } ∷ [] }

-- ---- which one

-- the Message ID of the client's request; none of the data channel waits
abbrev pub id_of : MessageKey → ℕ
id_of key.Http = 0
id_of (key.Non id) = id
id_of (key.Con id) = id

-- the peer and the Message ID of the request of an exchange
abbrev pub key_of : Exchange → Key
key_of x = record { peer = x.peer; id = id_of x.key }

-- of this peer's request with this Message ID
abbrev pub is_from : ℕ → ℕ → Waiting → Bool
is_from peer id k = k.exchange.peer == peer && id_of k.exchange.key == id

-- passed on with this token and this Message ID: the token is the number's 8 bytes, and the Message ID the number modulo 65,536
abbrev pub is_passed : List ℕ → ℕ → Waiting → Bool
is_passed token id k = bytes_eq (to_be_bytes w64 k.exchange.number) token && k.exchange.number % 2 ^ 16 == id

-- ---- what holds of them all

-- no two have one number
abbrev pub AreApart : List Waiting → Type 0
AreApart waiting = (i j : ℕ) (one other : Waiting) → slice_get waiting i ≡ Some one → slice_get waiting j ≡ Some other
    → one.exchange.number ≡ other.exchange.number → i ≡ j

-- ---- after a crash

-- numbers from 1 on that rise up to the next one, and times that don't fall
abbrev pub AreRising : ℕ → ℕ → List Exchange → ℕ → Type 0
AreRising number time [] next = number < next
AreRising number time (x ∷ xs) next = (number < x.number) × (time ≤ x.time) × AreRising x.number x.time xs next

abbrev pub AreRestorable : List Exchange → ℕ → Type 0
AreRestorable exchanges next = AreRising 0 0 exchanges next

-- an exchange whose datagram was lost
abbrev pub waiting_again : Exchange → Waiting
waiting_again x = record { exchange = x; asked = None }

-- the time of the last one
abbrev pub time_of : ℕ → List Exchange → ℕ
time_of time [] = time
time_of time (x ∷ xs) = time_of x.time xs

-- The exchanges wait again, and the time is not before that of the last one.
abbrev pub restored : List Exchange → ℕ → ExchangesValue → ExchangesValue
restored exchanges next e = record e { next = next; time = max (time_of 0 exchanges) e.time; waiting = map waiting_again exchanges }
