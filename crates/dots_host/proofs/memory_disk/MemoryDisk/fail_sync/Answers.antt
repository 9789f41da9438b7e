use Rattle.std.proofs.Common.{refl}
use Rattle.std.specs.Prelude.{false}
use Rattle.dots_host.specs.declared.act.Act.TheVariants as act
use Rattle.dots_host.specs.Becoming.{Stays}
use Rattle.dots_host.proofs.DiskLemmas.{may_become, may_go_on}
use Rattle.dots_host.proofs.memory_disk.MemoryDisk.fail_sync.Goals as goal

pub returns-clause-media : goal.returns-clause-media
returns-clause-media c = may_become c.args.self.now c.fail.new.self (act.Synced false) Stays c.fail.ensures.call refl

pub returns-clause-beside : goal.returns-clause-beside
returns-clause-beside c = may_go_on c.args.self.now c.fail.new.self (act.Synced false) c.fail.ensures.call tt
