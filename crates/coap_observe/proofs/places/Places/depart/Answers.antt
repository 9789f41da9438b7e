use Rattle.std.proofs.Common.{◌≡◌, true, None, Some, length, get_or, ap, sym, subst, ◌∙◌, arith}
use Rattle.std.proofs.lemmas.Grind.{get_or_default_zero}
use Rattle.std.proofs.lemmas.List.{length-set}
use Rattle.coap_observe.specs.Orders.{has_slot, without}
use Rattle.coap_observe.specs.Places.{PlacesValue, ArePlaced}
use Rattle.coap_observe.specs.Spots.{filled}
use Rattle.coap_observe.proofs.Placing.{its_position, within_spots, filled_less, placed_less, same_value}
use Rattle.coap_observe.proofs.places.Places.depart.Goals as goal
use Rattle.coap_observe.proofs.places.Places.depart.Goals.{After-index}

pub index-requires : goal.index-requires
index-requires c =
    let there = subst (λ (v : PlacesValue). has_slot c.args.slot v.slots ≡ true) (sym c.self.view_is) c.requires in
    let placed = its_position c.self.inside.spots c.self.inside.positions.items c.self.inside.given c.args.slot c.self.invariant there in
    omega (arith, placed.0, c.self.inside.positions.ok)

-- the slot stands at the position that was read
at_position : (c : After-index) → get_or c.self.inside.spots c.index.result.now None ≡ Some c.args.slot
at_position c =
    let there = subst (λ (v : PlacesValue). has_slot c.args.slot v.slots ≡ true) (sym c.self.view_is) c.requires in
    let placed = its_position c.self.inside.spots c.self.inside.positions.items c.self.inside.given c.args.slot c.self.invariant there in
    ap (λ k. get_or c.self.inside.spots k None) (c.index.ensures ∙ get_or_default_zero c.self.inside.positions.items c.args.slot c.index.result.now placed.0)
    ∙ placed.1

pub put-requires : goal.put-requires
put-requires c = within_spots c.self.inside.spots c.index.result.now c.args.slot (at_position (goal.at.put-requires c).After-index)

pub invariant_of-self : goal.invariant_of-self
invariant_of-self c =
    subst (λ spots. ArePlaced spots c.self.inside.positions.items c.self.inside.given) (sym c.put.ensures)
    (placed_less c.self.inside.spots c.self.inside.positions.items c.self.inside.given c.index.result.now c.args.slot c.self.invariant (at_position (goal.at.invariant_of-self c).After-index))

pub returns : goal.returns
returns c =
    same_value _ _ _ _ _ _ _ _
    (ap (λ (v : PlacesValue). v.room) c.self.view_is)
    (ap length c.put.ensures ∙ length-set c.self.inside.spots c.index.result.now None ∙ ap (λ (v : PlacesValue). v.width) c.self.view_is)
    (ap (λ (v : PlacesValue). v.given) c.self.view_is)
    (ap filled c.put.ensures
    ∙ filled_less c.self.inside.spots c.index.result.now c.args.slot (at_position (goal.at.returns c).After-index) c.self.invariant.distinct
    ∙ ap (λ (v : PlacesValue). without c.args.slot v.slots) c.self.view_is)
