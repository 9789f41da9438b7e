use Rattle.std.proofs.Common.{length, sym, arith}
use Rattle.std.proofs.lemmas.Bool.{eqb-false}
use Rattle.gateway_agent.proofs.Orders.{number_at_last}
use Rattle.gateway_agent.proofs.order.last_number.Goals as goal

pub returns : goal.returns
returns c =
    let some = eqb-false (length c.args.exchanges.now) 0 (sym c.if-is_empty.ensures) in
    sym (number_at_last 0 c.args.exchanges.now _ (omega (arith, some)))
