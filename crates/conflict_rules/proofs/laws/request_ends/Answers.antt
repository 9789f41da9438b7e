use Rattle.conflict_rules.proofs.Ending.{ended}
use Rattle.conflict_rules.proofs.laws.request_ends.Goals as goal

pub returns : goal.returns
returns c = ended
