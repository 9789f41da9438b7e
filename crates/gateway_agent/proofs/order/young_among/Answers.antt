use Rattle.std.proofs.Common.{ℕ, ap, ◌∙◌, arith}
use Rattle.std.specs.Prelude.{max}
use Rattle.gateway_agent.specs.Exchanges.{young_at}
use Rattle.gateway_agent.proofs.Young.{few, young_part}
use Rattle.gateway_agent.proofs.order.young_among.Goals as goal

pub overflow_sub-old : goal.overflow_sub-old
overflow_sub-old c =
    let all = few c.max-time.result c.args.exchanges.now in
    let is = c.count_young.ensures in
    omega (arith, all, is)

pub returns : goal.returns
returns c =
    young_part c.requires.0 c.max-time.result c.count_young.result c.args.exchanges.now c.requires.1 c.count_young.ensures
    ∙ ap (λ (t : ℕ). young_at t c.args.exchanges.now) (c.max-time.ensures ∙ ap (max c.args.now) c.last_time.ensures)
