use Rattle.std.proofs.Common.{◌≡◌, ℕ, ◌-◌}
use Rattle.dots_host.specs.Becoming.{RestsWith}
use Rattle.slot_store.specs.Opening.{Is}
use Rattle.slot_store.specs.Copying.{BesideHalf}
use Rattle.slot_store.proofs.Stages.{Stage}
use Rattle.slot_store.proofs.CopyingLemmas.{Copying}
use Rattle.slot_store.proofs.copying.copy_half.Given as goal

abbrev pub invariant-loop-slot : goal.invariant-loop-slot
invariant-loop-slot g l = record {
  extent : g.D.Disk.extent l.disk ≡ g.D.Disk.extent l.fn.disk;
  faults : g.D.Disk.faults l.disk ≡ g.D.Disk.faults l.fn.disk;
  beside : g.D.Disk.beside l.fn.disk l.disk;
  copied : (seen : ℕ → ℕ) → RestsWith (g.D.Disk.media l.fn.disk) (Is seen) →
      Stage (g.D.Disk.media l.fn.disk) (g.D.Disk.media l.disk) (BesideHalf l.slots (1 - l.half) seen) (Copying l.slots l.half l.format l.keep seen l.slot);
}
