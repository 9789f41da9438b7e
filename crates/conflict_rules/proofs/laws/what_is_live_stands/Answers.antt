use Rattle.conflict_rules.proofs.StandingLives.{still_stand}
use Rattle.conflict_rules.proofs.laws.what_is_live_stands.Goals as goal

pub returns : goal.returns
returns c = still_stand
