use Rattle.dots_registry.proofs.Keeping.{part_represents, named_represents}
use Rattle.dots_registry.proofs.laws.parts_with_the_view_are_represented.Goals as goal

pub returns : goal.returns
returns c = record { part = part_represents; named = named_represents }
