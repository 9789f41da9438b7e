use Rattle.std.proofs.Common.{ℕ, ◌≡◌, ◌≢◌, refl}
use Rattle.dots_host.specs.Media.{bytes_at}
use Rattle.dots_host.specs.Becoming.{KeepsMedia, RestsWith}
use Rattle.slot_store.specs.Gates.{Sees}
use Rattle.slot_store.specs.Opening.{Is}
use Rattle.slot_store.specs.Refusing.{RefusesDisk, IsOpen}
use Rattle.slot_store.specs.Layout.{HasRecords}
use Rattle.slot_store.specs.declared.fault.OpenFault.TheVariants as OpenFault
use Rattle.slot_store.proofs.DiskReading.{sees_at_rest, rests_unchanged}
use Rattle.slot_store.proofs.Steps.{leaves_then}
use Rattle.slot_store.proofs.OpenLemmas.{has_still, if_ok_as, if_err_as}
use Rattle.slot_store.proofs.formatting.open_header.Goals as goal

pub returns-in-Ok-clause-moments : goal.returns-in-Ok-clause-moments
returns-in-Ok-clause-moments g c = λ seen format records rests image_has.
    leaves_then _ _ _ (λ image. HasRecords c.args.slots c.args.digest.now format image records) (has_still _ _ c.args.slots c.args.digest.now format seen records (c.in-Ok.ensures.moments seen rests) image_has)
    (c.open_found.ensures.moments seen format records (c.in-Ok.ensures.rests seen (sees_at_rest _ seen rests)) (c.in-Ok.ensures.bytes seen (sees_at_rest _ seen rests)) image_has)

pub returns-in-Ok-clause-opened : goal.returns-in-Ok-clause-opened
returns-in-Ok-clause-opened g c = if_ok_as c.open_found.result
    (λ in_use. (seen : ℕ → ℕ) → RestsWith (g.D.Disk.media c.read_header.new.disk) (Is seen) → c.read_header.new.found ≡ bytes_at seen 0 64 → RestsWith (g.D.Disk.media c.open_found.new.disk) (IsOpen c.args.slots c.args.digest.now seen in_use.selector in_use.format))
    (λ in_use. (seen : ℕ → ℕ) → Sees (g.D.Disk.media c.args.disk.now) seen → RestsWith (g.D.Disk.media c.open_found.new.disk) (IsOpen c.args.slots c.args.digest.now seen in_use.selector in_use.format))
    (λ in_use opened seen sees. opened seen (c.in-Ok.ensures.rests seen sees) (c.in-Ok.ensures.bytes seen sees)) c.open_found.ensures.opened

pub returns-in-Ok-clause-refused : goal.returns-in-Ok-clause-refused
returns-in-Ok-clause-refused g c = if_err_as c.open_found.result
    (λ fault. (seen : ℕ → ℕ) → RestsWith (g.D.Disk.media c.read_header.new.disk) (Is seen) → c.read_header.new.found ≡ bytes_at seen 0 64 → RefusesDisk c.args.slots c.args.digest.now seen fault)
    (λ fault. (seen : ℕ → ℕ) → Sees (g.D.Disk.media c.args.disk.now) seen → RefusesDisk c.args.slots c.args.digest.now seen fault)
    (λ fault refuses seen sees. refuses seen (c.in-Ok.ensures.rests seen sees) (c.in-Ok.ensures.bytes seen sees)) c.open_found.ensures.refused

pub returns-in-Err-clause-moments : goal.returns-in-Err-clause-moments
returns-in-Err-clause-moments g c = λ seen format records rests image_has. has_still _ _ c.args.slots c.args.digest.now format seen records (c.in-Err.ensures.moments seen rests) image_has

pub returns-in-Ok-clause-unwritten : goal.returns-in-Ok-clause-unwritten
returns-in-Ok-clause-unwritten g c = if_err_as c.open_found.result
    (λ fault. fault ≢ OpenFault.DiskFault → KeepsMedia (g.D.Disk.media c.read_header.new.disk) (g.D.Disk.media c.open_found.new.disk))
    (λ fault. (seen : ℕ → ℕ) → fault ≢ OpenFault.DiskFault → RestsWith (g.D.Disk.media c.args.disk.now) (Is seen) → RestsWith (g.D.Disk.media c.open_found.new.disk) (Is seen))
    (λ fault keeps seen other rests. rests_unchanged _ _ (Is seen) (keeps other) (c.in-Ok.ensures.rests seen (sees_at_rest _ seen rests))) c.open_found.ensures.unwritten

pub returns-in-Err-clause-unwritten : goal.returns-in-Err-clause-unwritten
returns-in-Err-clause-unwritten g c = λ seen other rests. absurd (other refl)
