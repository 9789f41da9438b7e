use Rattle.dots_history.proofs.Rings.{ring_push, push_room, push_full, ring_room}
use Rattle.dots_history.proofs.tables.messages_are_remembered_in_a_ring.Goals as goal

pub returns : goal.returns
returns c = record { push = ring_push; room = push_room; full = push_full; few = ring_room }
