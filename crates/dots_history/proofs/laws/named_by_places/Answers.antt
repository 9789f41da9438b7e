use Rattle.dots_history.proofs.NamedPlaces.{named_there, named_back}
use Rattle.dots_history.proofs.laws.named_by_places.Goals as goal

pub returns : goal.returns
returns c = record { there = named_there; back = named_back }
