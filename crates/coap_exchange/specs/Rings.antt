-- What is remembered of accepted messages: for each peer and domain the last so many, in the order of acceptance.
use Rattle.std.specs.Prelude.{ℕ, Bool, ◌==◌, if◌then◌else◌, List, [], ◌∷◌, map, filter, Option, unwrap_or, option_map}
use Rattle.std.specs.List.{find, flat_map}
use Rattle.dots_history.specs.Entries.{may_repeat}
use Rattle.dots_history.specs.Places.{last_of}
use Rattle.dots_history.specs.Slots.{number_in}
use Rattle.dots_history.specs.Tables.{pushed}
use Rattle.coap_exchange.specs.declared.pair.Pair.{Pair}
use Rattle.coap_exchange.specs.declared.message.Message.{Message}
use Rattle.coap_exchange.specs.Pairs.{is_pair}

-- the last messages of a peer and domain, and how many there may be
pub record RingValue : Type 0 where
  pub pair : Pair
  pub room : ℕ
  pub messages : List Message

abbrev pub empty_ring : ℕ → Pair → RingValue
empty_ring room pair = record { pair = pair; room = room; messages = [] }

-- one more message is the last; the first goes where there is no room
abbrev pub grown : Message → RingValue → RingValue
grown message ring = record { pair = ring.pair; room = ring.room; messages = pushed ring.room message ring.messages }

-- the message had this Message ID and may still be repeated at this time (RFC 7252, section 4.8.2)
abbrev pub answers : ℕ → ℕ → Message → Bool
answers id now message = may_repeat now id message.time message.key

abbrev pub reply_of : Message → List ℕ
reply_of message = message.reply

-- the reply to a repeat: that of the last message that it may be one of (RFC 7252, section 4.5)
abbrev pub reply_to : ℕ → ℕ → List Message → Option (List ℕ)
reply_to id now messages = option_map reply_of (last_of (filter (answers id now) messages))

-- ---- all rings

abbrev pub pair_of : RingValue → Pair
pair_of ring = ring.pair

abbrev pub is_ring_of : ℕ → ℕ → RingValue → Bool
is_ring_of peer domain ring = is_pair peer domain ring.pair

abbrev pub ring_of : ℕ → ℕ → List RingValue → Option RingValue
ring_of peer domain rings = find (is_ring_of peer domain) rings

-- what is remembered of this peer and domain
abbrev pub messages_of : ℕ → ℕ → List RingValue → List Message
messages_of peer domain rings = unwrap_or (option_map (λ ring. ring.messages) (ring_of peer domain rings)) []

-- the ring of this peer and domain has one more message, and the others are as they were
abbrev pub noted : ℕ → ℕ → Message → List RingValue → List RingValue
noted peer domain message [] = []
noted peer domain message (ring ∷ rings) =
    if is_ring_of peer domain ring then grown message ring ∷ rings else ring ∷ noted peer domain message rings

-- ---- slots

abbrev pub slot_of : Message → ℕ
slot_of message = message.slot

abbrev pub slots_of : List Message → List ℕ
slots_of messages = map slot_of messages

-- the slot of each message that is remembered
abbrev pub all_slots : List RingValue → List ℕ
all_slots rings = flat_map (λ ring. slots_of ring.messages) rings

-- a slot becomes its place among those that are kept
abbrev pub renumbered : List ℕ → Message → Message
renumbered keep message = record { key = message.key; time = message.time; slot = number_in keep message.slot; reply = message.reply }

abbrev pub ring_renumbered : List ℕ → RingValue → RingValue
ring_renumbered keep ring = record { pair = ring.pair; room = ring.room; messages = map (renumbered keep) ring.messages }
