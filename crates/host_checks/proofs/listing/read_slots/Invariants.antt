use Rattle.std.proofs.Common.{◌≡◌}
use Rattle.host_checks.proofs.listing.read_slots.Given as goal

abbrev pub invariant-loop-slot : goal.invariant-loop-slot
invariant-loop-slot g l = record { extent : g.D.Disk.extent l.disk ≡ g.D.Disk.extent l.fn.disk }
