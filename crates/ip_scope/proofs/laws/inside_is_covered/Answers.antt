use Rattle.ip_scope.proofs.Prefixes.{inside-covered}
use Rattle.ip_scope.proofs.laws.inside_is_covered.Goals as goal

pub returns : goal.returns
returns c = inside-covered
