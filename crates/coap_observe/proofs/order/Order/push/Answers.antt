use Rattle.std.proofs.Common.{◌≡◌, ◌+◌, ◌<◌, ◌∷◌, [], ◌++◌, false, length, set, ap, sym, subst, ◌∙◌, arith}
use Rattle.std.proofs.lemmas.Grind.{get_or_default_zero}
use Rattle.coap_observe.specs.Links.{walk, IsRing}
use Rattle.coap_observe.specs.Orders.{OrderValue, has_slot}
use Rattle.coap_observe.specs.Places.{PlacesValue}
use Rattle.coap_observe.proofs.Linking.{walk_length}
use Rattle.coap_observe.proofs.Ringing.{last_low, ring_last}
use Rattle.coap_observe.proofs.order.Order.push.Goals as goal

pub make_room-requires-clause-few : goal.make_room-requires-clause-few
make_room-requires-clause-few c =
    let long = walk_length c.self.inside.count c.self.inside.behind.items c.self.inside.room in
    let few = subst (λ (o : OrderValue). length o.slots < o.room) (sym c.self.view_is) c.requires.few in
    omega (arith, long, few, c.self.invariant.width)

pub link-requires-clause-first : goal.link-requires-clause-first
link-requires-clause-first c =
    let last = c.index-last.ensures ∙ get_or_default_zero c.self.inside.before.items c.self.inside.room c.index-last.result.now (omega (arith, c.self.invariant.ring.before_size)) in
    let low = last_low c.self.inside.behind.items c.self.inside.before.items c.self.inside.count c.self.inside.room c.self.invariant.ring in
    omega (arith, last, low, c.self.invariant.ring.behind_size)

pub overflow_add-self : goal.overflow_add-self
overflow_add-self c =
    let long = walk_length c.self.inside.count c.self.inside.behind.items c.self.inside.room in
    let few = subst (λ (o : OrderValue). length o.slots < o.room) (sym c.self.view_is) c.requires.few in
    omega (arith, long, few, c.self.ranges)

pub invariant_of-self : goal.invariant_of-self
invariant_of-self c =
    let last = c.index-last.ensures ∙ get_or_default_zero c.self.inside.before.items c.self.inside.room c.index-last.result.now (omega (arith, c.self.invariant.ring.before_size)) in
    let less = subst (λ (o : OrderValue). c.args.slot < o.room) (sym c.self.view_is) c.requires.below in
    let new = subst (λ (o : OrderValue). has_slot c.args.slot o.slots ≡ false) (sym c.self.view_is) c.requires.new in
    let ring = ring_last c.self.inside.behind.items c.self.inside.before.items c.self.inside.count c.self.inside.room c.args.slot c.index-last.result.now c.self.invariant.ring last less new in
    let behind = c.link-2.ensures.behind ∙ ap (λ links. set links c.args.slot c.self.inside.room) c.link.ensures.behind in
    let before = c.link-2.ensures.before ∙ ap (λ links. set links c.self.inside.room c.args.slot) c.link.ensures.before in
    record {
      ring =
          subst (λ links. IsRing links c.link-2.new.before.items (c.self.inside.count + 1) c.self.inside.room) (sym behind)
          (subst (λ links. IsRing (set (set c.self.inside.behind.items c.index-last.result.now c.args.slot) c.args.slot c.self.inside.room) links (c.self.inside.count + 1) c.self.inside.room) (sym before) ring.ring);
      placed =
          ap (λ (v : PlacesValue). v.slots) c.push.ensures
          ∙ ap (λ slots. slots ++ c.args.slot ∷ []) (c.make_room.ensures.slots ∙ c.self.invariant.placed)
          ∙ sym (ap (λ links. walk (c.self.inside.count + 1) links c.self.inside.room) behind ∙ ring.slots_are);
      room = ap (λ (v : PlacesValue). v.room) c.push.ensures ∙ c.make_room.ensures.room ∙ c.self.invariant.room;
      width = ap (λ (v : PlacesValue). v.width) c.push.ensures ∙ c.make_room.ensures.width ∙ c.self.invariant.width;
    }

pub returns : goal.returns
returns c =
    let last = c.index-last.ensures ∙ get_or_default_zero c.self.inside.before.items c.self.inside.room c.index-last.result.now (omega (arith, c.self.invariant.ring.before_size)) in
    let less = subst (λ (o : OrderValue). c.args.slot < o.room) (sym c.self.view_is) c.requires.below in
    let new = subst (λ (o : OrderValue). has_slot c.args.slot o.slots ≡ false) (sym c.self.view_is) c.requires.new in
    let ring = ring_last c.self.inside.behind.items c.self.inside.before.items c.self.inside.count c.self.inside.room c.args.slot c.index-last.result.now c.self.invariant.ring last less new in
    let behind = c.link-2.ensures.behind ∙ ap (λ links. set links c.args.slot c.self.inside.room) c.link.ensures.behind in
    ap (λ slots. record { room = c.self.inside.room; slots = slots })
    (ap (λ links. walk (c.self.inside.count + 1) links c.self.inside.room) behind ∙ ring.slots_are)
    ∙ ap (λ (o : OrderValue). record { room = o.room; slots = o.slots ++ c.args.slot ∷ [] }) c.self.view_is
