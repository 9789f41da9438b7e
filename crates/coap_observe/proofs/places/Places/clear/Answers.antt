use Rattle.std.proofs.Common.{None, length, ap, refl, ◌∙◌}
use Rattle.std.proofs.lemmas.List.{length-replicate}
use Rattle.coap_observe.specs.Places.{PlacesValue}
use Rattle.coap_observe.proofs.Placing.{placed_none, filled_none, same_value}
use Rattle.coap_observe.proofs.places.Places.clear.Goals as goal

pub invariant_of-self : goal.invariant_of-self
invariant_of-self c = placed_none c.clear.new.spots c.self.inside.positions.items (length c.self.inside.spots) c.clear.ensures

pub returns : goal.returns
returns c =
    same_value _ _ _ _ _ _ _ _
    (ap (λ (v : PlacesValue). v.room) c.self.view_is)
    (ap length c.clear.ensures ∙ length-replicate (length c.self.inside.spots) None ∙ ap (λ (v : PlacesValue). v.width) c.self.view_is)
    refl
    (filled_none c.clear.new.spots (length c.self.inside.spots) c.clear.ensures)
