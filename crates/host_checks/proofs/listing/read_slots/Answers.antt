use Rattle.std.proofs.Common.{◌≡◌, ◌<◌, arith}
use Rattle.slot_journal.proofs.Halves.{slot_within}
use Rattle.host_checks.proofs.listing.read_slots.Goals as goal

pub read_entry-requires : goal.read_entry-requires
read_entry-requires g c = rw (c.place-place.ensures, c.loop-slot.invariant.extent) (slot_within c.args.store.now.slots c.args.store.now.selector c.loop-slot.slot (g.D.Disk.extent c.args.disk.now) c.requires (omega arith))
