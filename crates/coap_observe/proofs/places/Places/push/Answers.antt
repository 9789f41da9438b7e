use Rattle.std.proofs.Common.{◌≡◌, ◌+◌, ◌<◌, ◌∷◌, [], ◌++◌, false, Some, length, set, ap, sym, subst, ◌∙◌, arith}
use Rattle.std.proofs.lemmas.List.{length-set}
use Rattle.coap_observe.specs.Orders.{has_slot}
use Rattle.coap_observe.specs.Places.{PlacesValue, ArePlaced}
use Rattle.coap_observe.specs.Spots.{filled}
use Rattle.coap_observe.proofs.Placing.{filled_more, placed_more, same_value}
use Rattle.coap_observe.proofs.places.Places.push.Goals as goal

pub overflow_add-self : goal.overflow_add-self
overflow_add-self c =
    let left = subst (λ (v : PlacesValue). v.given < v.width) (sym c.self.view_is) c.requires.left in
    omega (arith, left, c.width-width.ensures, c.width-width.type_inv)

pub invariant_of-self : goal.invariant_of-self
invariant_of-self c =
    let left = subst (λ (v : PlacesValue). v.given < v.width) (sym c.self.view_is) c.requires.left in
    let below = subst (λ (v : PlacesValue). c.args.slot < v.room) (sym c.self.view_is) c.requires.below in
    let new = subst (λ (v : PlacesValue). has_slot c.args.slot v.slots ≡ false) (sym c.self.view_is) c.requires.new in
    subst (λ spots. ArePlaced spots (set c.self.inside.positions.items c.args.slot c.self.inside.given) (c.self.inside.given + 1)) (sym c.put.ensures)
    (placed_more c.self.inside.spots c.self.inside.positions.items c.self.inside.given c.args.slot c.self.invariant below left new)

pub returns : goal.returns
returns c =
    let left = subst (λ (v : PlacesValue). v.given < v.width) (sym c.self.view_is) c.requires.left in
    same_value _ _ _ _ _ _ _ _
    (length-set c.self.inside.positions.items c.args.slot c.self.inside.given ∙ ap (λ (v : PlacesValue). v.room) c.self.view_is)
    (ap length c.put.ensures ∙ length-set c.self.inside.spots c.self.inside.given (Some c.args.slot) ∙ ap (λ (v : PlacesValue). v.width) c.self.view_is)
    (ap (λ (v : PlacesValue). v.given + 1) c.self.view_is)
    (ap filled c.put.ensures
    ∙ filled_more c.self.inside.spots c.self.inside.given c.args.slot left c.self.invariant.free
    ∙ ap (λ (v : PlacesValue). v.slots ++ c.args.slot ∷ []) c.self.view_is)
