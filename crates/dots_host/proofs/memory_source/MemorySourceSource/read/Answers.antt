use Rattle.std.proofs.Common.{◌≡◌, ◌∙◌, sym, ap, drop}
use Rattle.dots_host.proofs.ReadLemmas.{consumed}
use Rattle.dots_host.proofs.memory_source.MemorySourceSource.read.Goals as goal

pub returns-clause-bytes : goal.returns-clause-bytes
returns-clause-bytes c =
    let rest : c.rest_of.result.now ≡ drop c.self.inside.read c.self.inside.bytes = c.rest_of.ensures ∙ ap (drop c.self.inside.read) c.items.ensures in
    let found = consumed c.self.inside.bytes c.args.into.now c.copy_front-count.new.into c.self.inside.read c.copy_front-count.result
    (rw rest at c.copy_front-count.ensures.count) c.copy_front-count.auto.into (rw rest at c.copy_front-count.ensures.copied) in
    (ap (λ reading. reading.left) (sym c.self.view_is) ∙ found.0, found.1)
