use Rattle.conflict_rules.proofs.Contesting.{contested_marked}
use Rattle.conflict_rules.proofs.laws.contested_by_a_prefix.Goals as goal

pub returns : goal.returns
returns c = contested_marked
