use Rattle.std.proofs.Common.{length, ap, sym, ◌∙◌}
use Rattle.coap_observe.specs.Orders.{OrderValue}
use Rattle.coap_observe.proofs.Linking.{walk_length}
use Rattle.coap_observe.proofs.order.Order.len.Goals as goal

pub returns : goal.returns
returns c =
    sym (walk_length c.self.inside.count c.self.inside.behind.items c.self.inside.room)
    ∙ ap (λ (o : OrderValue). length o.slots) c.self.view_is
