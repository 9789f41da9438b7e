use Rattle.std.proofs.Common.{◌≡◌, true, length, ap, sym, subst, ◌∙◌, arith}
use Rattle.slab.specs.Slab.{get}
use Rattle.coap_observe.specs.Orders.{OrderValue}
use Rattle.coap_observe.specs.Rolls.{RollValue, has_key, without_key, members_of, AreThere}
use Rattle.coap_observe.proofs.Rolling.{has_members, members_less, removed_there, length_less, is_there}
use Rattle.coap_observe.proofs.roll.Roll.remove.Goals as goal

pub remove-gone-requires : goal.remove-gone-requires
remove-gone-requires c =
    let at = get c.self.inside.ones in
    let slots = c.self.inside.order.slots in
    let has = subst (λ (r : RollValue). has_key c.args.key r.members ≡ true) (sym c.self.view_is) c.requires in
    is_there at c.args.key slots c.self.invariant.kept.there (sym (has_members at c.args.key slots c.self.invariant.kept.there) ∙ has)

pub depart-requires : goal.depart-requires
depart-requires c =
    let at = get c.self.inside.ones in
    let slots = c.self.inside.order.slots in
    let has = subst (λ (r : RollValue). has_key c.args.key r.members ≡ true) (sym c.self.view_is) c.requires in
    sym (has_members at c.args.key slots c.self.invariant.kept.there) ∙ has

pub returns : goal.returns
returns c =
    let at = get c.self.inside.ones in
    let new = get c.remove-gone.new.self in
    let slots = c.self.inside.order.slots in
    ap (λ (o : OrderValue). record { room = o.room; members = members_of new o.slots }) c.depart.ensures
    ∙ ap (λ members. record { room = c.self.inside.order.room; members = members }) (members_less at new c.args.key slots c.remove-gone.ensures.updates.others)
    ∙ ap (λ (r : RollValue). record { room = r.room; members = without_key c.args.key r.members }) c.self.view_is

pub invariant_of-self : goal.invariant_of-self
invariant_of-self c =
    let at = get c.self.inside.ones in
    let new = get c.remove-gone.new.self in
    let slots = c.self.inside.order.slots in
    let has = subst (λ (r : RollValue). has_key c.args.key r.members ≡ true) (sym c.self.view_is) c.requires in
    let there = sym (has_members at c.args.key slots c.self.invariant.kept.there) ∙ has in
    let less = length_less c.args.key slots c.self.invariant.kept.distinct there in
    let long = ap (λ (o : OrderValue). length o.slots) c.depart.ensures in
    let wide = ap (λ (o : OrderValue). o.room) c.depart.ensures in
    record {
      kept =
          subst (λ (o : OrderValue). AreThere new o.slots) (sym c.depart.ensures)
          (removed_there at new c.args.key slots c.self.invariant.kept c.remove-gone.ensures.updates.changed c.remove-gone.ensures.updates.others);
      count = omega (arith, less, long, c.self.invariant.count, c.remove-gone.ensures.len);
      room = wide ∙ c.self.invariant.room ∙ sym c.remove-gone.ensures.capacity;
    }
