use Rattle.std.proofs.Common.{length, sym, ap, ◌∙◌, arith}
use Rattle.std.specs.Prelude.{not}
use Rattle.std.proofs.lemmas.Bool.{lt-ltb}
use Rattle.gateway_agent.specs.Exchanges.{is_young, young_at}
use Rattle.gateway_agent.proofs.Orders.{ordered}
use Rattle.gateway_agent.proofs.Young.{few, room_at}
use Rattle.gateway_agent.proofs.order.has_room.Goals as goal

pub returns-then-len-most : goal.returns-then-len-most
returns-then-len-most c =
    let less = c.if-len-most.true in
    let all = few c.args.now c.args.exchanges.now in
    lt-ltb (length c.args.exchanges.now) c.args.most (omega (arith, less))
    ∙ sym (lt-ltb (length (young_at c.args.now c.args.exchanges.now)) c.args.most (omega (arith, less, all)))

pub returns-else-len-most : goal.returns-else-len-most
returns-else-len-most c =
    let more = c.if-len-most.false in
    ap not (c.is_young.ensures ∙ ap (is_young c.args.now) c.index-exchanges-len.is)
    ∙ room_at c.args.now c.args.most 0 0 c.args.exchanges.now _ (ordered c.args.most c.args.exchanges.now c.requires.store) c.requires.some (omega (arith, more))
