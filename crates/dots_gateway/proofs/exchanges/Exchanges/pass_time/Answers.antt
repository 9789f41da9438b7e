use Rattle.std.proofs.Common.{ap, ◌∙◌, arith}
use Rattle.dots_gateway.specs.Exchanges.{left_at}
use Rattle.dots_gateway.proofs.Orders.{sound_then_at}
use Rattle.dots_gateway.proofs.exchanges.Exchanges.pass_time.Goals as goal

pub invariant_of-self : goal.invariant_of-self
invariant_of-self c = record {
  sound = sound_then_at c.args.now c.max-self-inside.result
      (record { room = c.self.inside.room; next = c.self.inside.next; time = c.self.inside.time; waiting = c.self.inside.waiting.items })
      c.drop_over.new.waiting.items c.self.invariant.sound c.max-self-inside.ensures c.drop_over.ensures.left;
  numbered = c.drop_over.ensures.numbered;
  linked = c.drop_over.ensures.linked;
  reserved = (omega (arith, c.drop_over.ensures.capacity.0, c.self.invariant.reserved.0), omega (arith, c.drop_over.ensures.capacity.1, c.self.invariant.reserved.1));
  unused = λ one.
      let fresh = c.self.invariant.unused one in
      (c.drop_over.ensures.left ∙ ap (left_at c.max-self-inside.result) fresh.0, omega (arith, c.drop_over.ensures.none fresh.0, fresh.1));
}
