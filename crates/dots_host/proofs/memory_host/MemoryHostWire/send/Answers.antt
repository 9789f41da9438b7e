use Rattle.std.proofs.Common.{ap, refl}
use Rattle.dots_host.specs.declared.act.Act.TheVariants as act
use Rattle.dots_host.specs.Acts.{owned_of, is_done}
use Rattle.dots_host.proofs.DiskLemmas.{handed, carried}
use Rattle.dots_host.proofs.memory_host.MemoryHostWire.send.Goals as goal

pub returns-then-record_given-clause-leads : goal.returns-then-record_given-clause-leads
returns-then-record_given-clause-leads c =
    let call = act.Gave (owned_of c.args.out.now) (is_done c.if-next_fails.sent) in
    let made = carried c.args.self.now.disk c.self.inside.disk c.record_given.new.self c.record_given.new.self call (ap (λ host. host.disk) c.self.view_is) refl c.if-record_given.ensures.call in
    handed c.args.self.now c.record_given.new.self _ call made (ap (λ host. host.coming) c.self.view_is)
