use Rattle.std.proofs.Common.{◌≡◌, true, ap, sym, subst, ◌∙◌}
use Rattle.slab.specs.Slab.{get}
use Rattle.coap_observe.specs.Rolls.{RollValue, has_key, one_at}
use Rattle.coap_observe.proofs.Rolling.{has_members, found, is_there}
use Rattle.coap_observe.proofs.roll.Roll.one.Goals as goal

pub index-requires : goal.index-requires
index-requires c =
    let at = get c.self.inside.ones in
    let slots = c.self.inside.order.slots in
    let has = subst (λ (r : RollValue). has_key c.args.key r.members ≡ true) (sym c.self.view_is) c.requires in
    is_there at c.args.key slots c.self.invariant.kept.there (sym (has_members at c.args.key slots c.self.invariant.kept.there) ∙ has)

pub returns : goal.returns
returns c =
    ap (λ (r : RollValue). one_at c.args.key r.members) (sym c.self.view_is)
    ∙ found (get c.self.inside.ones) c.args.key c.self.inside.order.slots c.self.invariant.kept
    ∙ c.index.ensures
