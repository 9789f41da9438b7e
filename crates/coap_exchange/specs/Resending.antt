-- Messages that are sent again until they are acknowledged or given up.
use Rattle.std.specs.Prelude.{◌≡◌, ℕ, zero, suc, ◌<◌, ⊤, Bool, true, false, ◌==◌, unwrap_or, slice_get, if◌then◌else◌, List, [], ◌∷◌, Option, Some, None, option_map}
use Rattle.std.specs.List.{find}
use Rattle.coap_exchange.specs.declared.sender.Resend.{Resend}
use Rattle.coap_exchange.specs.declared.sender.Resend.TheVariants as handed
use Rattle.coap_exchange.specs.declared.sender.Turn.{Turn}
use Rattle.coap_exchange.specs.declared.sender.Turn.TheVariants as turn
use Rattle.coap_exchange.specs.Firsts.{replace_first}
use Rattle.coap_exchange.specs.Sent.{SentValue, is_due, repeated, may_repeat}

-- the messages that wait for an acknowledgement, in the order in which they were given, and how many there may be
pub record SenderValue : Type 0 where
  pub room : ℕ
  pub sent : List SentValue

abbrev pub has_id : ℕ → SentValue → Bool
has_id id sent = sent.id == id

-- what is kept of a message whose timeout is over
abbrev pub after_timeout : SentValue → List SentValue
after_timeout sent = if may_repeat sent then repeated sent ∷ [] else []

-- of the messages whose timeout is over, the one given first is sent again or given up
abbrev pub turned : ℕ → List SentValue → List SentValue
turned now sent = replace_first (is_due now) after_timeout sent

-- a message is to be sent again, or it is given up
pub data Resending : Type 0 where
  Again : List ℕ → Resending
  GaveUp : ℕ → Resending

abbrev pub answer_to_timeout : SentValue → Resending
answer_to_timeout sent = if may_repeat sent then Again sent.bytes else GaveUp sent.id

abbrev pub resending : ℕ → List SentValue → Option Resending
resending now sent = option_map answer_to_timeout (find (is_due now) sent)

abbrev pub resending_of : Resend → Resending
resending_of (handed.Again bytes) = Again bytes.now
resending_of (handed.GaveUp id) = GaveUp id

-- what is to be done by a turn, where these messages are kept after it
abbrev pub bytes_at : ℕ → List SentValue → List ℕ
bytes_at place sent = unwrap_or (option_map (λ (s : SentValue). s.bytes) (slice_get sent place)) []

abbrev pub resending_by : List SentValue → Turn → Resending
resending_by sent (turn.Again place) = Again (bytes_at place sent)
resending_by sent (turn.GaveUp place id) = GaveUp id

-- it names a place of so many
abbrev pub IsPlaceOf : ℕ → Turn → Type 0
IsPlaceOf count (turn.Again place) = place < count
IsPlaceOf count (turn.GaveUp place id) = ⊤

-- what the timeout of the message at a place comes to
abbrev pub turn_of : ℕ → SentValue → Turn
turn_of place sent = if may_repeat sent then turn.Again place else turn.GaveUp place sent.id

-- the first whose timeout is over stands at this place, and may be repeated or not
abbrev pub IsFirstDue : ℕ → List SentValue → ℕ → Bool → Type 0
IsFirstDue now [] place may = ⊥
IsFirstDue now (s ∷ ss) zero may = (is_due now s ≡ true) × (may_repeat s ≡ may)
IsFirstDue now (s ∷ ss) (suc place) may = (is_due now s ≡ false) × IsFirstDue now ss place may

abbrev pub NoneIsDue : ℕ → List SentValue → Type 0
NoneIsDue now [] = Unit {0}
NoneIsDue now (s ∷ ss) = (is_due now s ≡ false) × NoneIsDue now ss

-- the one that is given up has this Message ID
abbrev pub HasIdAt : List SentValue → ℕ → ℕ → Type 0
HasIdAt sent place id = option_map (λ (s : SentValue). s.id) (slice_get sent place) ≡ Some id

-- what the first timeout that is over comes to
abbrev pub IsTurnIn : ℕ → List SentValue → Option Turn → Type 0
IsTurnIn now sent None = NoneIsDue now sent
IsTurnIn now sent (Some (turn.Again place)) = IsFirstDue now sent place true
IsTurnIn now sent (Some (turn.GaveUp place id)) = IsFirstDue now sent place false × HasIdAt sent place id
