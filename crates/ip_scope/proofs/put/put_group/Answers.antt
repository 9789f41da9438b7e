use Rattle.ip_scope.proofs.put.put_group.Goals as goal
use Rattle.std.specs.Net.Text.{hex}
use Rattle.std.proofs.Common.{arith, rules}
use Rattle.std.proofs.lemmas.Grind.{common_steps}

pub returns-clause-text : goal.returns-clause-text
unfolding hex
returns-clause-text c = first_of (search rules, grind (arith, common_steps))
