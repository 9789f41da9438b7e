use Rattle.std.proofs.Common.{◌<◌, length, get_or, ap, sym, subst, ◌∙◌, arith}
use Rattle.slab.specs.Slab.{get}
use Rattle.coap_observe.specs.Rolls.{RollValue, keys_of}
use Rattle.coap_observe.proofs.Rolling.{keys_are, length_members}
use Rattle.coap_observe.proofs.roll.Roll.at.Goals as goal

pub at-requires : goal.at-requires
at-requires c =
    let there = subst (λ (r : RollValue). c.args.place < length r.members) (sym c.self.view_is) c.requires in
    let long = length_members (get c.self.inside.ones) c.self.inside.order.slots c.self.invariant.kept.there in
    omega (arith, there, long)

pub returns : goal.returns
returns c =
    c.at.ensures.value
    ∙ ap (λ ks. get_or ks c.args.place 0) (sym (keys_are (get c.self.inside.ones) c.self.inside.order.slots c.self.invariant.kept.there))
    ∙ ap (λ (r : RollValue). get_or (keys_of r.members) c.args.place 0) c.self.view_is
