use Rattle.ip_scope.proofs.Prefixes.{meets-shared}
use Rattle.ip_scope.proofs.laws.meets_is_shared.Goals as goal

pub returns : goal.returns
returns c = meets-shared
