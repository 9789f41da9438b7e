-- A client as a value, and what its own asks and the time do to it (RFC 9132, section 4.4). Times are in seconds; the schedule of
-- repeats counts milliseconds.
use Rattle.std.specs.Prelude.{◌≡◌, ℕ, ◌+◌, ◌-◌, ◌*◌, ◌%◌, ◌^◌, Bool, true, false, not, ◌&&◌, ◌==◌, nat_le, if◌then◌else◌, min, List, [], ◌∷◌, ◌++◌, length, filter, ℤ, pos, negsuc, Option, Some, None, option_map, unwrap_or, IsTrue, ⊤}
use Rattle.std.specs.List.{list_any, find}
use Rattle.acl_lists.specs.declared.asked.Asked.{Asked}
use Rattle.coap_exchange.specs.Firsts.{replace_first}
use Rattle.coap_exchange.specs.Sent.{SentValue, is_due, given, repeated, may_repeat}
use Rattle.coap_message.specs.Message.{spelling}
use Rattle.dots_client.specs.Requests.{asking, withdrawing}
use Rattle.dots_client.specs.declared.ask.Ask.{Ask}
use Rattle.dots_client.specs.declared.ask.Ask.TheVariants as ask
use Rattle.dots_client.specs.declared.ask.AskFault.{AskFault}
use Rattle.dots_client.specs.declared.ask.AskFault.TheVariants as fault
use Rattle.dots_client.specs.declared.client.TheConstants.{MAX_MID}
use Rattle.dots_client.specs.declared.granted.Granted.{Granted}
use Rattle.dots_client.specs.declared.request.Request.{Request}

-- a request that waits for its answer, and its message
pub record WaitingValue : Type 0 where
  pub request : Request
  pub sent : SentValue

-- The requests stand in the order of asking, and the ledger in that of the mids. The mid is that of the next new ask, and the number
-- that of the next request.
pub record ClientValue : Type 0 where
  pub cuid : List ℕ
  pub room : ℕ
  pub mid : ℕ
  pub number : ℕ
  pub waiting : List WaitingValue
  pub ledger : List Granted

-- the messages of requests are repeated by a clock of milliseconds, up to the greatest that there is
abbrev pub milliseconds : ℕ → ℕ
milliseconds now = min (now * 1000) (2 ^ 64 - 1)

-- ---- what may be asked

abbrev pub has_mid : ℕ → Granted → Bool
has_mid mid row = row.mid == mid

abbrev pub is_of : ℕ → Request → Bool
is_of mid request = request.mid == mid

abbrev pub waits_for : ℕ → WaitingValue → Bool
waits_for mid w = is_of mid w.request

abbrev pub is_empty : {A : Type 0} → List A → Bool
is_empty [] = true
is_empty (x ∷ xs) = false

-- what is refreshed or withdrawn stands in the ledger
abbrev pub IsKnown : Ask → List Granted → Type 0
IsKnown (ask.New asked lifetime) ledger = ⊤
IsKnown (ask.Refresh mid lifetime) ledger = IsTrue (list_any (has_mid mid) ledger)
IsKnown (ask.Withdraw mid) ledger = IsTrue (list_any (has_mid mid) ledger)

-- The mid of the request. A new one has the client's next mid, which after the last one is 0.
abbrev pub mid_for : ClientValue → Ask → ℕ
mid_for client (ask.New asked lifetime) = if client.mid == MAX_MID then 0 else client.mid
mid_for client (ask.Refresh mid lifetime) = mid
mid_for client (ask.Withdraw mid) = mid

-- a request of the same mid waits; a new mid is that of none
abbrev pub busy : ClientValue → Ask → Option ℕ
busy client (ask.New asked lifetime) = None
busy client (ask.Refresh mid lifetime) = if list_any (waits_for mid) client.waiting then Some mid else None
busy client (ask.Withdraw mid) = if list_any (waits_for mid) client.waiting then Some mid else None

-- all mids were given, and one of them is in use
abbrev pub is_spent : ClientValue → Ask → Bool
is_spent client (ask.New asked lifetime) = client.mid == MAX_MID && not (is_empty client.waiting && is_empty client.ledger)
is_spent client (ask.Refresh mid lifetime) = false
is_spent client (ask.Withdraw mid) = false

abbrev pub is_full : ClientValue → Bool
is_full client = nat_le client.room (length client.waiting)

-- the first fault that there is
abbrev pub free_fault : ClientValue → Ask → Option AskFault
free_fault client asked =
    if is_spent client asked then Some fault.MidSpent else if is_full client then Some (fault.Full client.number) else None

abbrev pub fault_by : Option ℕ → Option AskFault → Option AskFault
fault_by (Some mid) later = Some (fault.Busy mid)
fault_by None later = later

abbrev pub ask_fault : ClientValue → Ask → Option AskFault
ask_fault client asked = fault_by (busy client asked) (free_fault client asked)

-- the fault that is answered; want of memory may be answered in place of none
abbrev pub Faults : AskFault → Option AskFault → Type 0
Faults fault.NoMemory found = found ≡ None
Faults answer found = found ≡ Some answer

-- ---- an ask

-- the scope of the mitigation of a mid that stands in the ledger
abbrev pub no_targets : Asked
no_targets = record { prefixes = []; ports = []; protocols = []; names = []; aliases = [] }

abbrev pub scope_in : ℕ → List Granted → Asked
scope_in mid ledger = unwrap_or (option_map (λ (row : Granted). row.asked) (find (has_mid mid) ledger)) no_targets

-- a request for a mitigation carries its scope, and a withdrawal none
abbrev pub scope_for : ClientValue → Ask → Option Asked
scope_for client (ask.New asked lifetime) = Some asked
scope_for client (ask.Refresh mid lifetime) = Some (scope_in mid client.ledger)
scope_for client (ask.Withdraw mid) = None

abbrev pub bytes_for : ClientValue → Ask → List ℕ
bytes_for client (ask.New asked lifetime) = spelling (asking client.number client.cuid (mid_for client (ask.New asked lifetime)) asked lifetime)
bytes_for client (ask.Refresh mid lifetime) = spelling (asking client.number client.cuid mid (scope_in mid client.ledger) lifetime)
bytes_for client (ask.Withdraw mid) = spelling (withdrawing client.number client.cuid mid)

-- the next mid after an ask
abbrev pub mid_after : ClientValue → Ask → ℕ
mid_after client (ask.New asked lifetime) = mid_for client (ask.New asked lifetime) + 1
mid_after client (ask.Refresh mid lifetime) = client.mid
mid_after client (ask.Withdraw mid) = client.mid

-- a request that isn't handed out yet
abbrev pub new_request : ClientValue → Ask → Request
new_request client asked = record { number = client.number; mid = mid_for client asked; scope = scope_for client asked; handed = false }

-- The message is to be repeated, at times that the random word fixes. It is known by its place.
abbrev pub new_waiting : ClientValue → Ask → ℕ → ℕ → WaitingValue
new_waiting client asked now word =
    record { request = new_request client asked; sent = given (bytes_for client asked) (client.number % 2 ^ 16) (milliseconds now) word }

abbrev pub asked_at : ClientValue → Ask → ℕ → ℕ → ClientValue
asked_at client asked now word = record client {
  mid = mid_after client asked;
  number = (client.number + 1) % 2 ^ 64;
  waiting = client.waiting ++ new_waiting client asked now word ∷ [];
}

-- ---- the time

-- its lifetime has passed
abbrev pub ends_by : ℕ → ℤ → ℕ → Bool
ends_by at (pos seconds) now = nat_le (at + seconds) now
ends_by at (negsuc n) now = false

abbrev pub is_over : ℕ → Granted → Bool
is_over now row = ends_by row.at row.lifetime now

abbrev pub left_at : ℕ → List Granted → List Granted
left_at now ledger = filter (λ (row : Granted). not (is_over now row)) ledger

abbrev pub is_new : Request → Bool
is_new request = not request.handed

abbrev pub is_unsent : WaitingValue → Bool
is_unsent w = is_new w.request

abbrev pub handed : Request → Request
handed request = record { number = request.number; mid = request.mid; scope = request.scope; handed = true }

abbrev pub handed_out : WaitingValue → List WaitingValue
handed_out w = record { request = handed w.request; sent = w.sent } ∷ []

abbrev pub bytes_of : WaitingValue → List ℕ
bytes_of w = w.sent.bytes

abbrev pub again : WaitingValue → WaitingValue
again w = record { request = w.request; sent = repeated w.sent }

-- Of the requests whose timeout is over the first that may be repeated is; those before it are given up.
abbrev pub repeat_answer : ℕ → List WaitingValue → Option (List ℕ)
repeat_answer now [] = None
repeat_answer now (w ∷ ws) = if is_due now w.sent then (if may_repeat w.sent then Some w.sent.bytes else repeat_answer now ws) else repeat_answer now ws

abbrev pub repeat_after : ℕ → List WaitingValue → List WaitingValue
repeat_after now [] = []
repeat_after now (w ∷ ws) =
    if is_due now w.sent then (if may_repeat w.sent then again w ∷ ws else repeat_after now ws) else w ∷ repeat_after now ws

-- The next message that is due: first the requests that weren't handed out yet, in the order of asking, and then what is repeated.
abbrev pub due_answer : ℕ → List WaitingValue → Option (List ℕ)
due_answer now ws = if list_any is_unsent ws then option_map bytes_of (find is_unsent ws) else repeat_answer now ws

abbrev pub due_after : ℕ → List WaitingValue → List WaitingValue
due_after now ws = if list_any is_unsent ws then replace_first is_unsent handed_out ws else repeat_after now ws

abbrev pub tick_answer : ℕ → ClientValue → Option (List ℕ)
tick_answer now client = due_answer (milliseconds now) client.waiting

abbrev pub tick_after : ℕ → ClientValue → ClientValue
tick_after now client = record client { waiting = due_after (milliseconds now) client.waiting; ledger = left_at now client.ledger }
