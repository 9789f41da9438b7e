use Rattle.dots_history.proofs.PlaceLaws.{live_at_place, place_is_live}
use Rattle.dots_history.proofs.laws.live_by_places.Goals as goal

pub returns : goal.returns
returns c = record { there = live_at_place; back = place_is_live }
