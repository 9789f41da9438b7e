-- The slots of messages put into a list one after the other.
use Rattle.std.proofs.Common.{◌≡◌, ℕ, ◌+◌, ◌<◌, List, length, drop, get_or, sym, ap, ◌∙◌}
use Rattle.dots_history.specs.Slots.{placed}
use Rattle.dots_history.specs.KeptPlaces.{union}
use Rattle.dots_history.proofs.Unions.{union_placed, union_swap, union_append}
use Rattle.coap_exchange.specs.declared.message.Message.{Message}
use Rattle.coap_exchange.specs.Rings.{RingValue, slots_of, all_slots}
use Rattle.coap_exchange.proofs.Places.{drop_more}

pub put_message : (messages : List Message) (i : ℕ) (message : Message) (items all : List ℕ) → i < length messages → message ≡ get_or messages i message
    → union (slots_of (drop i messages)) items ≡ all → union (slots_of (drop (i + 1) messages)) (placed message.slot items) ≡ all
put_message messages i message items all less is same =
    union_placed message.slot (slots_of (drop (i + 1) messages)) items
    ∙ sym (ap (λ ms. union (slots_of ms) items) (drop_more messages i message less is))
    ∙ same

pub put_ring : (rings : List RingValue) (i : ℕ) (ring : RingValue) (items all : List ℕ) → i < length rings → ring ≡ get_or rings i ring
    → union (all_slots (drop i rings)) items ≡ all → union (all_slots (drop (i + 1) rings)) (union (slots_of ring.messages) items) ≡ all
put_ring rings i ring items all less is same =
    union_swap (all_slots (drop (i + 1) rings)) (slots_of ring.messages) items
    ∙ sym (union_append (slots_of ring.messages) (all_slots (drop (i + 1) rings)) items)
    ∙ sym (ap (λ rs. union (all_slots rs) items) (drop_more rings i ring less is))
    ∙ same
