use Rattle.std.proofs.Common.{arith, ◌<◌}
use Rattle.filter_table.proofs.Slots.{slot_within}
use Rattle.filter_table.proofs.Stored.{turn_room}
use Rattle.filter_table.proofs.storing.store_one.Goals as goal

pub put_turn-requires-clause-room : goal.put_turn-requires-clause-room
put_turn-requires-clause-room c =
    omega (arith, turn_room c.args.rows.now.items c.args.turns.now.items c.args.free.now.items c.requires.stand, c.requires.some, c.requires.room)

pub fill_slot-requires : goal.fill_slot-requires
fill_slot-requires c =
    let low : c.in-Some.slot < c.requires.stand.room = slot_within _ _ _ _ _ c.in-Some.ensures.items c.requires.stand.stand.slots_are in
    omega (arith, low, c.requires.stand.stand.rows_number)
