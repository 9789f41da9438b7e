use Rattle.std.proofs.Common.{length, drop, ap, ◌∙◌, length-drop, arith}
use Rattle.std.proofs.lemmas.List.{length-map}
use Rattle.dots_gateway.specs.Exchanges.{waiting_again}
use Rattle.dots_gateway.proofs.Orders.{linked_length}
use Rattle.dots_gateway.proofs.restoring.put_back.Goals as goal

pub put_first-requires-clause-room : goal.put_first-requires-clause-room
put_first-requires-clause-room c =
    let xs = c.args.exchanges.now in
    let before = c.loop-at.invariant in
    let len = ap length before.waiting ∙ length-map (drop c.loop-at.at xs) waiting_again ∙ length-drop c.loop-at.at xs in
    let links = linked_length c.loop-at.links.items c.loop-at.waiting.items before.linked in (
      omega (arith, len, before.within, before.capacity, c.requires.room.0, c.loop-at-test.true, c.loop-at.waiting.ok),
      omega (arith, len, links, before.within, before.reserved, c.requires.room.1, c.loop-at-test.true, c.loop-at.links.ok),
      omega (arith, before.within, before.spared, c.requires.room.2, c.loop-at-test.true),
    )
