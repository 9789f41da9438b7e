use Rattle.std.proofs.Common.{arith, ◌%◌}
use Rattle.slot_journal.proofs.Halves.{all_closed, first_open, slots_within, slots_small}
use Rattle.slot_journal.proofs.reading.check_rest.Goals as goal

pub find_gate-requires-clause-room : goal.find_gate-requires-clause-room
find_gate-requires-clause-room g c = rw (c.place-first.ensures, c.from-2.ensures, c.slots-slots.ensures) (slots_within c.args.store.now.slots c.args.store.now.selector (g.D.Disk.extent c.args.disk.now) c.requires.size)

pub find_gate-requires-clause-small : goal.find_gate-requires-clause-small
find_gate-requires-clause-small g c = rw (c.place-first.ensures, c.from-2.ensures, c.slots-slots.ensures) (slots_small c.args.store.now.slots c.args.store.now.selector (omega arith))

pub returns-in-Ok-None-clause-closed : goal.returns-in-Ok-None-clause-closed
returns-in-Ok-None-clause-closed g c = λ seen sees.
    all_closed c.args.store.now.slots (c.args.store.now.selector % 2) seen c.args.store.now.used c.args.store.now.slots
    (rw (c.place-first.ensures, c.from.ensures, c.from-2.ensures, c.used-used.ensures.used, c.slots-slots.ensures) at (rw c.in-Ok-None.field-0-is at (c.in-Ok-None.ensures.found seen sees)))

pub returns-in-Ok-Some-clause-refused : goal.returns-in-Ok-Some-clause-refused
returns-in-Ok-Some-clause-refused g c = λ seen sees.
    first_open c.args.store.now.slots (c.args.store.now.selector % 2) seen c.args.store.now.used c.in-Ok-Some.slot c.place-at.result
    (rw (c.place-first.ensures, c.from.ensures, c.from-2.ensures, c.used-used.ensures.used, c.slots-slots.ensures) at (rw c.in-Ok-Some.field-0-is at (c.in-Ok-Some.ensures.found seen sees))) c.place-at.ensures
