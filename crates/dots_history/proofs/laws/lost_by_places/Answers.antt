use Rattle.dots_history.proofs.LostPlaces.{lost_at_place, place_is_lost}
use Rattle.dots_history.proofs.laws.lost_by_places.Goals as goal

pub returns : goal.returns
returns c = record { there = lost_at_place; back = place_is_lost }
