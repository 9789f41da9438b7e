use Rattle.live_mitigations.proofs.Ends.{live_second, any_due}
use Rattle.live_mitigations.proofs.laws.mitigations_end_at_a_second.Goals as goal

pub returns : goal.returns
returns c = record { live = live_second; first = any_due }
