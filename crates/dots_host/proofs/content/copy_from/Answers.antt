use Rattle.std.proofs.Common.{arith, ◌∙◌, ap, ◌+◌, ◌-◌, ◌≡◌, take, drop}
use Rattle.dots_host.proofs.ContentLemmas.{read_parts}
use Rattle.dots_host.proofs.content.copy_from.Goals as goal

pub returns : goal.returns
returns c =
    let size : c.min-start.result + c.min-count.result - c.min-start.result ≡ c.min-count.result = omega arith in
    read_parts c.args.bytes.now c.args.into.now c.fill.new.self c.copy_from_slice.new.self c.args.at c.min-start.result c.min-count.result c.min-start.ensures c.min-count.ensures (c.fill.ensures.after (λ y e. e))
    (c.copy_from_slice.ensures.after ∙ ap (λ n. take n (drop c.min-start.result c.args.bytes.now)) size)
