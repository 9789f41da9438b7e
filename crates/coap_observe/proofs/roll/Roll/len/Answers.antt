use Rattle.std.proofs.Common.{length, ap, sym, ◌∙◌}
use Rattle.slab.specs.Slab.{get}
use Rattle.coap_observe.specs.Rolls.{RollValue}
use Rattle.coap_observe.proofs.Rolling.{length_members}
use Rattle.coap_observe.proofs.roll.Roll.len.Goals as goal

pub returns : goal.returns
returns c =
    c.len.ensures
    ∙ sym (length_members (get c.self.inside.ones) c.self.inside.order.slots c.self.invariant.kept.there)
    ∙ ap (λ (r : RollValue). length r.members) c.self.view_is
