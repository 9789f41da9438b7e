use Rattle.live_mitigations.proofs.Domains.{kept_slots}
use Rattle.live_mitigations.proofs.laws.live_slots_are_named.Goals as goal

pub returns : goal.returns
returns c = kept_slots
