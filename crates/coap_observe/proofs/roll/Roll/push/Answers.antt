use Rattle.std.proofs.Common.{◌<◌, ◌∷◌, [], ◌++◌, length, ap, sym, subst, ◌∙◌, arith}
use Rattle.slab.specs.Slab.{get}
use Rattle.coap_observe.specs.Orders.{OrderValue}
use Rattle.coap_observe.specs.Rolls.{RollValue, has_key, members_of, AreThere}
use Rattle.coap_observe.proofs.Entering.{length_more}
use Rattle.coap_observe.proofs.Rolling.{length_members, has_members, off_keys, none_has, members_last, pushed_there}
use Rattle.coap_observe.proofs.roll.Roll.push.Goals as goal

pub insert_reserved-key-requires : goal.insert_reserved-key-requires
insert_reserved-key-requires c =
    let few = subst (λ (r : RollValue). length r.members < r.room) (sym c.self.view_is) c.requires in
    let long = length_members (get c.self.inside.ones) c.self.inside.order.slots c.self.invariant.kept.there in
    omega (arith, few, long, c.self.invariant.count, c.self.invariant.room)

pub push-requires : goal.push-requires
push-requires c =
    let at = get c.self.inside.ones in
    let slots = c.self.inside.order.slots in
    let key = c.insert_reserved-key.result in
    let few = subst (λ (r : RollValue). length r.members < r.room) (sym c.self.view_is) c.requires in
    let long = length_members at slots c.self.invariant.kept.there in
    record {
      below = omega (arith, c.insert_reserved-key.ensures.key_in_range, c.insert_reserved-key.ensures.capacity, c.self.invariant.room);
      few = omega (arith, few, long);
      new = none_has key slots (off_keys at key slots c.self.invariant.kept.there c.insert_reserved-key.ensures.was_vacant);
    }

pub returns-clause-below : goal.returns-clause-below
returns-clause-below c =
    let same = ap (λ (r : RollValue). r.room) c.self.view_is in
    omega (arith, same, c.insert_reserved-key.ensures.key_in_range, c.insert_reserved-key.ensures.capacity, c.self.invariant.room)

pub returns-clause-new : goal.returns-clause-new
returns-clause-new c =
    let at = get c.self.inside.ones in
    let slots = c.self.inside.order.slots in
    let key = c.insert_reserved-key.result in
    ap (λ (r : RollValue). has_key key r.members) (sym c.self.view_is)
    ∙ has_members at key slots c.self.invariant.kept.there
    ∙ none_has key slots (off_keys at key slots c.self.invariant.kept.there c.insert_reserved-key.ensures.was_vacant)

pub returns-clause-last : goal.returns-clause-last
returns-clause-last c =
    let at = get c.self.inside.ones in
    let new = get c.insert_reserved-key.new.self in
    let slots = c.self.inside.order.slots in
    let key = c.insert_reserved-key.result in
    let apart = off_keys at key slots c.self.invariant.kept.there c.insert_reserved-key.ensures.was_vacant in
    ap (λ (o : OrderValue). record { room = o.room; members = members_of new o.slots }) c.push.ensures
    ∙ ap (λ members. record { room = c.self.inside.order.room; members = members })
    (members_last at new key c.args.one slots apart c.insert_reserved-key.ensures.updates.changed c.insert_reserved-key.ensures.updates.others)
    ∙ ap (λ (r : RollValue). record { room = r.room; members = r.members ++ (key, c.args.one) ∷ [] }) c.self.view_is

pub invariant_of-self : goal.invariant_of-self
invariant_of-self c =
    let at = get c.self.inside.ones in
    let new = get c.insert_reserved-key.new.self in
    let slots = c.self.inside.order.slots in
    let key = c.insert_reserved-key.result in
    let more = length_more key slots in
    let long = ap (λ (o : OrderValue). length o.slots) c.push.ensures in
    let wide = ap (λ (o : OrderValue). o.room) c.push.ensures in
    record {
      kept =
          subst (λ (o : OrderValue). AreThere new o.slots) (sym c.push.ensures)
          (pushed_there at new key c.args.one slots c.self.invariant.kept c.insert_reserved-key.ensures.was_vacant c.insert_reserved-key.ensures.updates.changed c.insert_reserved-key.ensures.updates.others);
      count = omega (arith, more, long, c.self.invariant.count, c.insert_reserved-key.ensures.len);
      room = wide ∙ c.self.invariant.room ∙ sym c.insert_reserved-key.ensures.capacity;
    }
