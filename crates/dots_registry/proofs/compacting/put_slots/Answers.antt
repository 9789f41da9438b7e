use Rattle.std.proofs.Common.{ℕ, ◌≤◌, List, length, sym, ap, ◌∙◌, subst}
use Rattle.std.specs.Prelude.{option_to_list}
use Rattle.dots_history.specs.Slots.{Slots}
use Rattle.dots_history.specs.KeptPlaces.{union}
use Rattle.coap_exchange.specs.Rings.{all_slots}
use Rattle.live_mitigations.specs.Numbers.{all_numbers}
use Rattle.held_resources.specs.Rows.{slots_in}
use Rattle.dots_registry.proofs.Uniting.{in_parts, room_for}
use Rattle.dots_registry.proofs.compacting.put_slots.Goals as goal

pub put_slots-requires : goal.put_slots-requires
put_slots-requires c =
    (room_for
    (all_numbers c.args.live.now.tables)
    (all_slots c.args.remembered.now)
    (option_to_list c.args.last)
    (slots_in c.args.held.now.slots.rows)
    c.args.into.now.items
    c.args.into.now.room
    c.requires).0

pub put_last-requires : goal.put_last-requires
put_last-requires c =
    subst
    (λ (l : Slots). length (union (option_to_list c.args.last) l.items) ≤ l.room)
    (sym c.put_slots.ensures)
    (room_for
    (all_numbers c.args.live.now.tables)
    (all_slots c.args.remembered.now)
    (option_to_list c.args.last)
    (slots_in c.args.held.now.slots.rows)
    c.args.into.now.items
    c.args.into.now.room
    c.requires).1

pub slots-requires : goal.slots-requires
slots-requires c =
    subst
    (λ (l : Slots). length (union (all_slots c.args.remembered.now) l.items) ≤ l.room)
    (sym (c.put_last.ensures ∙ ap (λ (l : Slots). record { items = union (option_to_list c.args.last) l.items; room = l.room }) c.put_slots.ensures))
    (room_for
    (all_numbers c.args.live.now.tables)
    (all_slots c.args.remembered.now)
    (option_to_list c.args.last)
    (slots_in c.args.held.now.slots.rows)
    c.args.into.now.items
    c.args.into.now.room
    c.requires).2

pub put_slots-requires-2 : goal.put_slots-requires-2
put_slots-requires-2 c =
    subst
    (λ (l : Slots). length (union (all_numbers c.args.live.now.tables) l.items) ≤ l.room)
    (sym
    (c.slots.ensures
    ∙ ap (λ (l : Slots). record { items = union (all_slots c.args.remembered.now) l.items; room = l.room }) c.put_last.ensures
    ∙ ap
    (λ (l : Slots). record { items = union (all_slots c.args.remembered.now) (union (option_to_list c.args.last) l.items); room = l.room })
    c.put_slots.ensures))
    (room_for
    (all_numbers c.args.live.now.tables)
    (all_slots c.args.remembered.now)
    (option_to_list c.args.last)
    (slots_in c.args.held.now.slots.rows)
    c.args.into.now.items
    c.args.into.now.room
    c.requires).3

pub returns : goal.returns
returns c =
    c.put_slots-2.ensures
    ∙ ap (λ (l : Slots). record { items = union (all_numbers c.args.live.now.tables) l.items; room = l.room }) c.slots.ensures
    ∙ ap
    (λ (l : Slots). record { items = union (all_numbers c.args.live.now.tables) (union (all_slots c.args.remembered.now) l.items); room = l.room })
    c.put_last.ensures
    ∙ ap
    (λ (l : Slots). record {
      items = union (all_numbers c.args.live.now.tables) (union (all_slots c.args.remembered.now) (union (option_to_list c.args.last) l.items));
      room = l.room;
    })
    c.put_slots.ensures
    ∙ ap
    (λ (items : List ℕ). record { items = items; room = c.args.into.now.room })
    (sym
    (in_parts
    (all_numbers c.args.live.now.tables)
    (all_slots c.args.remembered.now)
    (option_to_list c.args.last)
    (slots_in c.args.held.now.slots.rows)
    c.args.into.now.items))
