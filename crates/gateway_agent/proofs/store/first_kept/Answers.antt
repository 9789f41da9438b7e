use Rattle.std.proofs.Common.{ℕ, ◌<◌, length, drop, sym, ap, ◌∙◌, arith}
use Rattle.std.specs.Prelude.{◌-◌}
use Rattle.gateway_agent.specs.Exchanges.{young_at}
use Rattle.gateway_agent.proofs.Kept.{where_some, where_none}
use Rattle.gateway_agent.proofs.Young.{few}
use Rattle.gateway_agent.proofs.store.first_kept.Goals as goal

pub returns-then-young-eq0-clause-kept : goal.returns-then-young-eq0-clause-kept
returns-then-young-eq0-clause-kept c =
    let store = c.requires.store in
    where_none store.0 c.args.now c.args.exchanges.now store.1 c.requires.some (sym c.count_young-young.ensures ∙ c.if-young-eq0.true)

pub overflow_sub-result-2 : goal.overflow_sub-result-2
overflow_sub-result-2 c =
    let all = few c.args.now c.args.exchanges.now in
    let is = c.count_young-young.ensures in
    omega (arith, all, is)

pub returns-clause-kept : goal.returns-clause-kept
returns-clause-kept c =
    let store = c.requires.store in
    let is = c.count_young-young.ensures in
    let other = c.if-young-eq0.false in
    let some : 0 < length (young_at c.args.now c.args.exchanges.now) = omega (arith, is, other) in
    ap (λ (n : ℕ). drop (length c.args.exchanges.now - n) c.args.exchanges.now) is ∙ where_some store.0 c.args.now c.args.exchanges.now store.1 some
