use Rattle.std.proofs.Common.{◌<◌, ◌∷◌, length, get_or, ap, sym, subst, ◌∙◌, arith}
use Rattle.slab.specs.Slab.{get}
use Rattle.coap_observe.specs.Rolls.{RollValue, keys_of}
use Rattle.coap_observe.proofs.Rolling.{keys_are, length_members}
use Rattle.coap_observe.proofs.roll.Roll.behind.Goals as goal

pub behind-requires : goal.behind-requires
behind-requires c =
    let at = get c.self.inside.ones in
    let slots = c.self.inside.order.slots in
    let there = subst (λ (r : RollValue). c.args.place < length r.members) (sym c.self.view_is) c.requires.there in
    let long = length_members at slots c.self.invariant.kept.there in
    record {
      there = omega (arith, there, long);
      before =
          c.requires.before
          ∙ ap (λ (r : RollValue). get_or (r.room ∷ keys_of r.members) c.args.place 0) (sym c.self.view_is)
          ∙ ap (λ ks. get_or (c.self.inside.order.room ∷ ks) c.args.place 0) (keys_are at slots c.self.invariant.kept.there);
    }

pub returns : goal.returns
returns c =
    let at = get c.self.inside.ones in
    let slots = c.self.inside.order.slots in
    c.behind.ensures.value
    ∙ ap (λ ks. get_or ks c.args.place 0) (sym (keys_are at slots c.self.invariant.kept.there))
    ∙ ap (λ (r : RollValue). get_or (keys_of r.members) c.args.place 0) c.self.view_is
