use Rattle.dots_history.proofs.HeldPlaces.{held_at_place, place_is_held}
use Rattle.dots_history.proofs.laws.held_by_places.Goals as goal

pub returns : goal.returns
returns c = record { there = held_at_place; back = place_is_held }
