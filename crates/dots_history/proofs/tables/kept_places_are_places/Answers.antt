use Rattle.dots_history.proofs.KeptPlaces.{places_of_kept, places_rise, places_inside, last_is_kept, places_of_parts}
use Rattle.dots_history.proofs.tables.kept_places_are_places.Goals as goal

pub returns : goal.returns
returns c = record { there = places_of_kept; rise = places_rise; inside = places_inside; last = last_is_kept; union = places_of_parts }
