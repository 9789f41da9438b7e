use Rattle.ip_scope.proofs.PrefixReading.{no_slash_anywhere, last_slash}
use Rattle.ip_scope.proofs.parse.split_at_last_slash.Goals as goal

pub returns-in_err-slash-clause-value : goal.returns-in_err-slash-clause-value
returns-in_err-slash-clause-value c = rw c.from_residual.ensures (no_slash_anywhere _ c.in_err-slash.ensures)

pub returns-clause-value : goal.returns-clause-value
returns-clause-value c = last_slash _ _ c.in_ok-slash.ensures.0 c.in_ok-slash.ensures.1
