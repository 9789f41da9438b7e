use Rattle.dots_host.proofs.DiskLemmas.{seen_same}
use Rattle.dots_host.proofs.memory_disk.MemoryDisk.record.Goals as goal

pub invariant_of-self : goal.invariant_of-self
invariant_of-self c = seen_same c.self.inside.base c.self.inside.tape.acts c.log.new.self.acts c.args.act _ c.log.ensures.acts c.self.invariant c.requires.seen
