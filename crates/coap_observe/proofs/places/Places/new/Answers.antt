use Rattle.std.proofs.Common.{None, length, ap, refl, ◌∙◌}
use Rattle.std.proofs.lemmas.List.{length-replicate}
use Rattle.coap_observe.proofs.Placing.{placed_none, filled_none, same_value}
use Rattle.coap_observe.proofs.places.Places.new.Goals as goal

pub invariant_of-result : goal.invariant_of-result
invariant_of-result c = placed_none c.in_ok-spots.spots c.in_ok-positions.positions.items c.args.width c.in_ok-spots.ensures

pub returns : goal.returns
returns c =
    same_value _ _ _ _ _ _ _ _
    (ap length c.in_ok-positions.ensures ∙ length-replicate c.args.room 0)
    (ap length c.in_ok-spots.ensures ∙ length-replicate c.args.width None)
    refl
    (filled_none c.in_ok-spots.spots c.args.width c.in_ok-spots.ensures)
