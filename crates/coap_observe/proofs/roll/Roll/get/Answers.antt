use Rattle.std.proofs.Common.{ap, sym, ◌∙◌}
use Rattle.slab.specs.Slab.{get}
use Rattle.coap_observe.specs.Rolls.{RollValue, one_at}
use Rattle.coap_observe.proofs.Rolling.{found}
use Rattle.coap_observe.proofs.roll.Roll.get.Goals as goal

pub returns : goal.returns
returns c =
    c.get.ensures
    ∙ sym (found (get c.self.inside.ones) c.args.key c.self.inside.order.slots c.self.invariant.kept)
    ∙ ap (λ (r : RollValue). one_at c.args.key r.members) c.self.view_is
