use Rattle.std.proofs.Common.{◌≡◌, ℕ}
use Rattle.dots_host.specs.Becoming.{KeepsMedia}
use Rattle.slot_store.specs.Gates.{Sees, NoneIs}
use Rattle.slot_store.proofs.gates.find_gate.Given as goal

abbrev pub invariant-loop-index : goal.invariant-loop-index
invariant-loop-index g l = record {
  keeps : KeepsMedia (g.D.Disk.media l.fn.disk) (g.D.Disk.media l.disk);
  extent : g.D.Disk.extent l.disk ≡ g.D.Disk.extent l.fn.disk;
  faults : g.D.Disk.faults l.disk ≡ g.D.Disk.faults l.fn.disk;
  beside : g.D.Disk.beside l.fn.disk l.disk;
  passed : (seen : ℕ → ℕ) → Sees (g.D.Disk.media l.fn.disk) seen → NoneIs l.what seen l.first l.from l.index;
}
