use Rattle.ip_scope.proofs.Canonical.{IsCanonical-hex_groups_text}
use Rattle.ip_scope.proofs.laws.groups_are_canonical.Goals as goal

pub returns : goal.returns
returns c = IsCanonical-hex_groups_text
