use Rattle.conflict_rules.proofs.JudgedByPlaces.{judged_by_places, places_judge}
use Rattle.dots_registry.proofs.judgement_laws.judgement_by_places.Goals as goal

pub returns : goal.returns
returns c = record { there = judged_by_places; back = places_judge }
