use Rattle.ip_scope.proofs.Canonical.{prefix_text_injective}
use Rattle.ip_scope.proofs.laws.one_prefix_to_a_text.Goals as goal

pub returns : goal.returns
returns c = prefix_text_injective
