use Rattle.std.proofs.Common.{ℕ, length, sym, ap, ◌∙◌, arith}
use Rattle.std.specs.Prelude.{max}
use Rattle.std.proofs.lemmas.Bool.{eqb-false}
use Rattle.dots_gateway.proofs.Orders.{time_at_last}
use Rattle.dots_gateway.proofs.restoring.time_after.Goals as goal

pub returns : goal.returns
returns c =
    let some = eqb-false (length c.args.exchanges.now) 0 (sym c.if-is_empty.ensures) in
    c.max.ensures ∙ ap (λ (t : ℕ). max t c.args.time) (sym (time_at_last 0 c.args.exchanges.now c.index-exchanges-exchanges.result (omega (arith, some))))
