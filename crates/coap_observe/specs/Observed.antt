-- An observer with what it was notified of.
use Rattle.std.specs.Prelude.{ℕ, ◌+◌, ◌%◌, Bool, ◌&&◌, ◌==◌, not, bytes_eq, List, [], ◌∷◌, Option, Some}
use Rattle.coap_observe.specs.declared.observer.Observer.{Observer}
use Rattle.dots_history.specs.Entries.{option_any}
use Rattle.coap_observe.specs.Seen.{Lists, list_for, same_seen}

pub record ObservedValue : Type 0 where
  pub observer : Observer
  -- the number of its next notification
  pub number : ℕ
  -- the Message ID of its last notification
  pub last : Option ℕ
  -- what it was notified of last
  pub seen : List (ℕ × ℕ)

-- numbers rise by one, in 24 bits (RFC 7641, section 3.4)
abbrev pub next_number : ℕ → ℕ
next_number number = (number + 1) % 16777216

-- the number after so many
abbrev pub number_after : ℕ → ℕ → ℕ
number_after k number = (number + k) % 16777216

-- a peer and a token are one observer (RFC 7641, section 4.1)
abbrev pub is_token : ℕ → List ℕ → ObservedValue → Bool
is_token peer token o = (o.observer.peer == peer) && bytes_eq o.observer.token token

abbrev pub is_of : ℕ → ℕ → ObservedValue → Bool
is_of peer domain o = (o.observer.peer == peer) && (o.observer.domain == domain)

-- the last notification of this peer's observer had this Message ID
abbrev pub same_id : ℕ → Option ℕ → Bool
same_id id last = option_any (λ other. other == id) last

abbrev pub had_id : ℕ → ℕ → ObservedValue → Bool
had_id peer id o = (o.observer.peer == peer) && same_id id o.last

-- what it was notified of last isn't what there is to see
abbrev pub is_due : Lists → ObservedValue → Bool
is_due lists o = not (same_seen o.seen (list_for lists o.observer))

-- it is notified of what there is to see, with this Message ID
abbrev pub notified : ℕ → List (ℕ × ℕ) → ObservedValue → ObservedValue
notified id seen o = record { observer = o.observer; number = next_number o.number; last = Some id; seen = seen }

-- it is registered again, perhaps for something else, and its numbers go on
abbrev pub registered_again : Observer → List (ℕ × ℕ) → ObservedValue → ObservedValue
registered_again observer seen o = record { observer = observer; number = next_number o.number; last = o.last; seen = seen }

-- ---- all that is sent to an observer

-- the reply to a registration, or a notification
pub data Sending : Type 0 where
  Replies : Observer → List (ℕ × ℕ) → Sending
  Notifies : ℕ → List (ℕ × ℕ) → Sending

abbrev pub after_sending : ObservedValue → Sending → ObservedValue
after_sending o (Replies observer seen) = registered_again observer seen o
after_sending o (Notifies id seen) = notified id seen o

-- the numbers that these have, in their order
abbrev pub numbers_of : ObservedValue → List Sending → List ℕ
numbers_of o [] = []
numbers_of o (sending ∷ sendings) = o.number ∷ numbers_of (after_sending o sending) sendings
