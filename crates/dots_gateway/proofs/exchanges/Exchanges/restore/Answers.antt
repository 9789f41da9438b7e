use Rattle.std.proofs.Common.{◌≡◌, ◌≤◌, length, map, sym, ap, subst, ◌∙◌, arith}
use Rattle.dots_gateway.specs.Exchanges.{ExchangesValue, waiting_again}
use Rattle.dots_gateway.proofs.Orders.{sound_restored, none_restored}
use Rattle.dots_gateway.proofs.exchanges.Exchanges.restore.Goals as goal

pub invariant_of-self : goal.invariant_of-self
invariant_of-self c =
    let xs = c.args.exchanges.now in
    let e : ExchangesValue = record { room = c.self.inside.room; next = c.self.inside.next; time = c.self.inside.time; waiting = c.self.inside.waiting.items } in
    let room = subst (λ (e : ExchangesValue). length xs ≤ e.room) (sym c.self.view_is) c.requires.room in
    let fresh = c.self.invariant.unused (subst (λ (e : ExchangesValue). e.next ≡ 1) (sym c.self.view_is) c.requires.fresh) in
    record {
      sound = sound_restored xs c.args.next e c.time_after-self-inside.result c.put_back.new.waiting.items c.requires.order (omega (arith, c.ranges.next.fits)) room
          c.time_after-self-inside.ensures c.put_back.ensures.waiting;
      numbered = c.put_back.ensures.numbered;
      linked = c.put_back.ensures.linked;
      reserved = (omega (arith, c.put_back.ensures.capacity.0, c.self.invariant.reserved.0), omega (arith, c.put_back.ensures.capacity.1, c.self.invariant.reserved.1));
      unused = λ one.
          let none = none_restored xs c.args.next c.requires.order one in
          (c.put_back.ensures.waiting ∙ ap (map waiting_again) none, omega (arith, c.put_back.ensures.none none, fresh.1));
    }
