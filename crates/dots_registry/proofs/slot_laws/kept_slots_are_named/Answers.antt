use Rattle.dots_registry.proofs.Named.{kept_named}
use Rattle.dots_registry.proofs.slot_laws.kept_slots_are_named.Goals as goal

pub returns : goal.returns
returns c = kept_named
