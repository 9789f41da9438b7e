use Rattle.held_resources.proofs.Lawful.{still_represents}
use Rattle.held_resources.proofs.laws.mitigations_hold_nothing.Goals as goal

pub returns : goal.returns
returns c = still_represents
