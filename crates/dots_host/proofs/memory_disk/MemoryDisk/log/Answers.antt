use Rattle.dots_host.proofs.DiskLemmas.{seen_same, seen_wire}
use Rattle.dots_host.proofs.memory_disk.MemoryDisk.log.Goals as goal

pub invariant_of-self : goal.invariant_of-self
invariant_of-self c = seen_same c.self.inside.base c.self.inside.tape.acts c.log.new.self.acts c.args.act _ c.log.ensures.acts c.self.invariant (seen_wire c.args.act c.requires.wire)
