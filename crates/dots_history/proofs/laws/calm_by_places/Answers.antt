use Rattle.dots_history.proofs.CalmPlaces.{calm_places, places_calm}
use Rattle.dots_history.proofs.laws.calm_by_places.Goals as goal

pub returns : goal.returns
returns c = record { there = calm_places; back = places_calm }
