use Rattle.std.proofs.Common.{◌≡◌, ℕ, ◌%◌, length}
use Rattle.std.specs.List.{AllByRecursion}
use Rattle.dots_host.specs.Becoming.{KeepsMedia}
use Rattle.slot_store.specs.Gates.{Sees}
use Rattle.slot_store.specs.Refusing.{IsCount}
use Rattle.slot_journal.specs.DiskEntries.{HasRecord}
use Rattle.slot_journal.specs.Refused.{HasFirst}
use Rattle.slot_journal.proofs.reading.read_entries.Given as goal

abbrev pub invariant-loop-slot : goal.invariant-loop-slot
invariant-loop-slot g l = record {
  keeps : KeepsMedia (g.D.Disk.media l.fn.disk) (g.D.Disk.media l.disk);
  extent : g.D.Disk.extent l.disk ≡ g.D.Disk.extent l.fn.disk;
  faults : g.D.Disk.faults l.disk ≡ g.D.Disk.faults l.fn.disk;
  beside : g.D.Disk.beside l.fn.disk l.disk;
  count : length l.entries ≡ l.slot;
  each : AllByRecursion HasRecord l.entries;
  filled : (seen : ℕ → ℕ) → Sees (g.D.Disk.media l.fn.disk) seen → IsCount l.store.slots (l.store.selector % 2) seen l.store.used → HasFirst l.store.slots (l.store.selector % 2) l.store.format seen l.entries;
}
