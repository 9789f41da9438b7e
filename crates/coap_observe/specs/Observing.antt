-- Observers of mitigations (RFC 7641; RFC 9132, section 4.4.2.1), in the order of their registration.
use Rattle.std.specs.Prelude.{◌≡◌, ℕ, ◌<◌, ◌≤◌, Bool, true, false, not, ◌||◌, ◌&&◌, ◌==◌, nat_lt, if◌then◌else◌, List, [], ◌∷◌, filter, length, slice_get, Option, Some, None, option_map, unwrap_or}
use Rattle.std.specs.List.{find, list_any}
use Rattle.dots_history.specs.Entries.{option_any}
use Rattle.dots_history.specs.Histories.{tally, is_nil}
use Rattle.coap_exchange.specs.declared.pair.Pair.{Pair}
use Rattle.coap_observe.specs.declared.observer.Observer.{Observer}
use Rattle.coap_observe.specs.Seen.{Lists, list_for}
use Rattle.coap_observe.specs.declared.due_among.DueAmong.{DueAmong}
use Rattle.coap_observe.specs.DueAmong.{includes_one}
use Rattle.coap_observe.specs.Observed.{ObservedValue, next_number, is_token, is_of, had_id, is_due, notified, registered_again}

-- the observers in the order of their registration, for which peers and domains there may be some, and how many for each
pub record ObserversValue : Type 0 where
  pub room : ℕ
  pub pairs : List Pair
  pub observed : List ObservedValue

-- ---- registration

-- the one of this peer and token that is there already
abbrev pub own_of : Observer → List ObservedValue → Option ObservedValue
own_of observer observed = find (is_token observer.peer observer.token) observed

-- It is there already, for this domain, or there are fewer of its peer and domain than there may be.
abbrev pub has_room : ℕ → Observer → List ObservedValue → Bool
has_room room observer observed =
    option_any (λ (o : ObservedValue). o.observer.domain == observer.domain) (own_of observer observed)
    || nat_lt (tally (is_of observer.peer observer.domain) observed) room

-- the number of the reply: the numbers of an observer that is there go on, and others begin at 1
abbrev pub number_for : Observer → List ObservedValue → ℕ
number_for observer observed = unwrap_or (option_map (λ (o : ObservedValue). o.number) (own_of observer observed)) 1

abbrev pub registered_first : Observer → List (ℕ × ℕ) → ObservedValue
registered_first observer seen = record { observer = observer; number = next_number 1; last = None; seen = seen }

-- it takes the place of the one of its peer and token, or else it is the last
abbrev pub entered : Observer → List (ℕ × ℕ) → List ObservedValue → List ObservedValue
entered observer seen [] = registered_first observer seen ∷ []
entered observer seen (o ∷ os) =
    if is_token observer.peer observer.token o then registered_again observer seen o ∷ os else o ∷ entered observer seen os

abbrev pub registered : Lists → ℕ → Observer → List ObservedValue → List ObservedValue
registered lists room observer observed =
    if has_room room observer observed then entered observer (list_for lists observer) observed else observed

-- ---- the end of observing

abbrev pub deregistered : ℕ → List ℕ → List ObservedValue → List ObservedValue
deregistered peer token observed = filter (λ o. not (is_token peer token o)) observed

-- a reset that answers a notification (RFC 7641, section 3.6)
abbrev pub without_id : ℕ → ℕ → List ObservedValue → List ObservedValue
without_id peer id observed = filter (λ o. not (had_id peer id o)) observed

-- ---- notifications

-- from a place on, up to another, none of these is due
abbrev pub NoneIsDue : Lists → DueAmong → ℕ → ℕ → List ObservedValue → Type 0
NoneIsDue lists among from to observed =
    (place : ℕ) (o : ObservedValue) → from ≤ place → place < to → slice_get observed place ≡ Some o → includes_one among o ≡ true → is_due lists o ≡ false

-- From a place on, the first of these that is due stands at this place; its notification has this number; and it is gone where
-- nothing is left to see.
pub record IsNextDue (lists : Lists) (among : DueAmong) (from : ℕ) (observed : List ObservedValue) (place : ℕ) (observer : Observer) (number : ℕ) (gone : Bool) : Type 0 where
  pub one : ObservedValue
  pub there : slice_get observed place ≡ Some one
  pub within : place < length observed
  pub later : from ≤ place
  pub due : is_due lists one ≡ true
  pub first : NoneIsDue lists among from place observed
  pub observer_is : observer ≡ one.observer
  pub number_is : number ≡ one.number
  pub gone_is : gone ≡ is_nil (list_for lists one.observer)

-- an observer that was notified of something left to see stays, and one that is gone goes
abbrev pub notified_or_gone : ℕ → List (ℕ × ℕ) → ObservedValue → List ObservedValue
notified_or_gone id seen o = if is_nil seen then [] else notified id seen o ∷ []

abbrev pub after_notice : Lists → ℕ → ObservedValue → List ObservedValue
after_notice lists id o = notified_or_gone id (list_for lists o.observer) o

-- ---- whether there is one

-- the pair is one of this domain, and has an observer
abbrev pub has_one : ℕ → List ObservedValue → Pair → Bool
has_one domain observed pair = (pair.domain == domain) && list_any (is_of pair.peer domain) observed

-- ---- what always holds

-- each is of one of these pairs
abbrev pub AreOf : List Pair → List ObservedValue → Type 0
AreOf pairs [] = Unit {0}
AreOf pairs (o ∷ os) = (list_any (λ (pair : Pair). is_of pair.peer pair.domain o) pairs ≡ true) × AreOf pairs os

pub record AreBounded (pairs : List Pair) (room : ℕ) (observed : List ObservedValue) : Type 0 where
  pub known : AreOf pairs observed
  pub few : (peer domain : ℕ) → tally (is_of peer domain) observed ≤ room
