use Rattle.std.proofs.Common.{◌≡◌, ◌-◌, true, set, ap, sym, subst, ◌∙◌, arith}
use Rattle.std.proofs.lemmas.Grind.{get_or_default_zero}
use Rattle.coap_observe.specs.Links.{walk, IsRing}
use Rattle.coap_observe.specs.Orders.{OrderValue, has_slot, without}
use Rattle.coap_observe.specs.Places.{PlacesValue}
use Rattle.coap_observe.proofs.Ringing.{near, ring_less}
use Rattle.coap_observe.proofs.order.Order.depart.Goals as goal

pub index-before-requires : goal.index-before-requires
index-before-requires c =
    let there = subst (λ (o : OrderValue). has_slot c.args.slot o.slots ≡ true) (sym c.self.view_is) c.requires in
    let low = (near c.self.inside.behind.items c.self.inside.before.items c.self.inside.count c.self.inside.room c.args.slot c.self.invariant.ring there).slot_low in
    omega (arith, low, c.self.invariant.ring.before_size, c.self.inside.before.ok)

pub index-behind-requires : goal.index-behind-requires
index-behind-requires c =
    let there = subst (λ (o : OrderValue). has_slot c.args.slot o.slots ≡ true) (sym c.self.view_is) c.requires in
    let low = (near c.self.inside.behind.items c.self.inside.before.items c.self.inside.count c.self.inside.room c.args.slot c.self.invariant.ring there).slot_low in
    omega (arith, low, c.self.invariant.ring.behind_size, c.self.inside.behind.ok)

pub link-requires-clause-first : goal.link-requires-clause-first
link-requires-clause-first c =
    let there = subst (λ (o : OrderValue). has_slot c.args.slot o.slots ≡ true) (sym c.self.view_is) c.requires in
    let lows = near c.self.inside.behind.items c.self.inside.before.items c.self.inside.count c.self.inside.room c.args.slot c.self.invariant.ring there in
    let before = c.index-before.ensures ∙ get_or_default_zero c.self.inside.before.items c.args.slot c.index-before.result.now (omega (arith, lows.slot_low, c.self.invariant.ring.before_size)) in
    omega (arith, before, lows.before_low, c.self.invariant.ring.behind_size)

pub link-requires-clause-second : goal.link-requires-clause-second
link-requires-clause-second c =
    let there = subst (λ (o : OrderValue). has_slot c.args.slot o.slots ≡ true) (sym c.self.view_is) c.requires in
    let lows = near c.self.inside.behind.items c.self.inside.before.items c.self.inside.count c.self.inside.room c.args.slot c.self.invariant.ring there in
    let behind = c.index-behind.ensures ∙ get_or_default_zero c.self.inside.behind.items c.args.slot c.index-behind.result.now (omega (arith, lows.slot_low, c.self.invariant.ring.behind_size)) in
    omega (arith, behind, lows.behind_low, c.self.invariant.ring.before_size)

pub invariant_of-self : goal.invariant_of-self
invariant_of-self c =
    let there = subst (λ (o : OrderValue). has_slot c.args.slot o.slots ≡ true) (sym c.self.view_is) c.requires in
    let lows = near c.self.inside.behind.items c.self.inside.before.items c.self.inside.count c.self.inside.room c.args.slot c.self.invariant.ring there in
    let before = c.index-before.ensures ∙ get_or_default_zero c.self.inside.before.items c.args.slot c.index-before.result.now (omega (arith, lows.slot_low, c.self.invariant.ring.before_size)) in
    let behind = c.index-behind.ensures ∙ get_or_default_zero c.self.inside.behind.items c.args.slot c.index-behind.result.now (omega (arith, lows.slot_low, c.self.invariant.ring.behind_size)) in
    let ring = ring_less c.self.inside.behind.items c.self.inside.before.items c.self.inside.count c.self.inside.room c.args.slot c.index-before.result.now c.index-behind.result.now c.self.invariant.ring before behind there in
    record {
      ring =
          subst (λ links. IsRing links c.link.new.before.items (c.self.inside.count - 1) c.self.inside.room) (sym c.link.ensures.behind)
          (subst (λ links. IsRing (set c.self.inside.behind.items c.index-before.result.now c.index-behind.result.now) links (c.self.inside.count - 1) c.self.inside.room) (sym c.link.ensures.before) ring.ring);
      placed =
          ap (λ (v : PlacesValue). v.slots) c.depart.ensures
          ∙ ap (without c.args.slot) c.self.invariant.placed
          ∙ sym (ap (λ links. walk (c.self.inside.count - 1) links c.self.inside.room) c.link.ensures.behind ∙ ring.slots_are);
      room = ap (λ (v : PlacesValue). v.room) c.depart.ensures ∙ c.self.invariant.room;
      width = ap (λ (v : PlacesValue). v.width) c.depart.ensures ∙ c.self.invariant.width;
    }

pub returns : goal.returns
returns c =
    let there = subst (λ (o : OrderValue). has_slot c.args.slot o.slots ≡ true) (sym c.self.view_is) c.requires in
    let lows = near c.self.inside.behind.items c.self.inside.before.items c.self.inside.count c.self.inside.room c.args.slot c.self.invariant.ring there in
    let before = c.index-before.ensures ∙ get_or_default_zero c.self.inside.before.items c.args.slot c.index-before.result.now (omega (arith, lows.slot_low, c.self.invariant.ring.before_size)) in
    let behind = c.index-behind.ensures ∙ get_or_default_zero c.self.inside.behind.items c.args.slot c.index-behind.result.now (omega (arith, lows.slot_low, c.self.invariant.ring.behind_size)) in
    let ring = ring_less c.self.inside.behind.items c.self.inside.before.items c.self.inside.count c.self.inside.room c.args.slot c.index-before.result.now c.index-behind.result.now c.self.invariant.ring before behind there in
    ap (λ slots. record { room = c.self.inside.room; slots = slots })
    (ap (λ links. walk (c.self.inside.count - 1) links c.self.inside.room) c.link.ensures.behind ∙ ring.slots_are)
    ∙ ap (λ (o : OrderValue). record { room = o.room; slots = without c.args.slot o.slots }) c.self.view_is
