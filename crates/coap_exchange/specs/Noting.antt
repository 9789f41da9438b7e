-- What rings come to by a list of calls, and for which histories they stand.
use Rattle.std.specs.Prelude.{◌≡◌, ℕ, Bool, ◌&&◌, ◌==◌, if◌then◌else◌, List, [], ◌∷◌, ◌++◌, map, Some}
use Rattle.dots_history.specs.declared.entry.Entry.{Entry}
use Rattle.dots_history.specs.declared.entry.MessageKey.{MessageKey}
use Rattle.dots_history.specs.Places.{lasts}
use Rattle.dots_history.specs.Tables.{ring}
use Rattle.coap_exchange.specs.declared.message.Message.{Message}
use Rattle.coap_exchange.specs.Rings.{RingValue, ring_of, noted, renumbered, ring_renumbered}

-- ---- lists of calls

-- a call that changes what is remembered: a message of this peer and domain is noted, or the slots are numbered anew
pub data Call : Type 0 where
  Note : ℕ → ℕ → Message → Call
  Move : List ℕ → Call

abbrev pub after_call : List RingValue → Call → List RingValue
after_call rings (Note peer domain message) = noted peer domain message rings
after_call rings (Move keep) = map (ring_renumbered keep) rings

abbrev pub after_calls : List RingValue → List Call → List RingValue
after_calls rings [] = rings
after_calls rings (call ∷ calls) = after_calls (after_call rings call) calls

-- both are the same peer and domain
abbrev pub is_same : ℕ → ℕ → ℕ → ℕ → Bool
is_same peer domain other number = (other == peer) && (number == domain)

-- all that was noted of a peer and domain, in order, with the slots as they are numbered last
abbrev pub noted_by : ℕ → ℕ → List Message → Call → List Message
noted_by peer domain notes (Note other number message) = if is_same peer domain other number then notes ++ message ∷ [] else notes
noted_by peer domain notes (Move keep) = map (renumbered keep) notes

abbrev pub all_noted : ℕ → ℕ → List Message → List Call → List Message
all_noted peer domain notes [] = notes
all_noted peer domain notes (call ∷ calls) = all_noted peer domain (noted_by peer domain notes call) calls

-- the ring has the last n of these messages
pub record HasLasts (n : ℕ) (notes : List Message) (r : RingValue) : Type 0 where
  pub room : r.room ≡ n
  pub messages : r.messages ≡ lasts n notes

-- each ring that is kept has the last n of what was noted of its peer and domain
abbrev pub AllHave : ℕ → List RingValue → (ℕ → ℕ → List Message) → Type 0
AllHave n rings notes = (peer domain : ℕ) (r : RingValue) → ring_of peer domain rings ≡ Some r → HasLasts n (notes peer domain) r

-- ---- histories

-- what of an entry is remembered, but for its slot
pub record Said : Type 0 where
  pub key : MessageKey
  pub time : ℕ
  pub reply : List ℕ

abbrev pub said_by_entry : Entry → Said
said_by_entry e = record { key = e.key; time = e.time; reply = e.reply }

abbrev pub said_by_message : Message → Said
said_by_message m = record { key = m.key; time = m.time; reply = m.reply }

-- the message of an entry that stands in this slot
abbrev pub message_of : ℕ → Entry → Message
message_of slot e = record { key = e.key; time = e.time; slot = slot; reply = e.reply }

-- the ring has what the ring of a peer and domain in a history has, when n messages are remembered
pub record Remembers (n : ℕ) (entries : List Entry) (peer domain : ℕ) (r : RingValue) : Type 0 where
  pub room : r.room ≡ n
  pub messages : map said_by_message r.messages ≡ map said_by_entry (ring n peer domain entries)

-- each ring that is kept does
abbrev pub AllRemember : ℕ → List RingValue → List Entry → Type 0
AllRemember n rings entries = (peer domain : ℕ) (r : RingValue) → ring_of peer domain rings ≡ Some r → Remembers n entries peer domain r
