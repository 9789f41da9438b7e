use Rattle.std.proofs.Common.{ap, refl, ◌∷◌, length}
use Rattle.std.specs.Prelude.{false}
use Rattle.dots_host.specs.declared.act.Act.TheVariants as act
use Rattle.dots_host.specs.Media.{IsTorn}
use Rattle.dots_host.specs.Stored.{media_of}
use Rattle.dots_host.proofs.DiskLemmas.{may_become, may_go_on}
use Rattle.dots_host.proofs.memory_disk.MemoryDisk.fail_write.Goals as goal

pub returns-clause-media : goal.returns-clause-media
returns-clause-media c =
    may_become c.args.self.now c.fail.new.self (act.Wrote c.args.at c.in-Ok.bytes false) (IsTorn c.args.at (length c.args.bytes.now)) c.fail.ensures.call
    (record { pending = ap (λ bytes. (c.args.at, length bytes) ∷ (media_of c.args.self.now).now.pending) c.in-Ok.ensures; kept = λ place outside. refl })

pub returns-clause-beside : goal.returns-clause-beside
returns-clause-beside c = may_go_on c.args.self.now c.fail.new.self (act.Wrote c.args.at c.in-Ok.bytes false) c.fail.ensures.call tt
