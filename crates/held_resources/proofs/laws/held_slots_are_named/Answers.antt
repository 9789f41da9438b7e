use Rattle.held_resources.proofs.Named.{slots_named}
use Rattle.held_resources.proofs.laws.held_slots_are_named.Goals as goal

pub returns : goal.returns
returns c = slots_named
