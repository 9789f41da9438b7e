use Rattle.ip_scope.proofs.PrefixReading.{prefix_reads, reads_prefix}
use Rattle.ip_scope.proofs.laws.prefix_of_a_text.Goals as goal

pub returns : goal.returns
returns c = λ text prefix. (prefix_reads text prefix, reads_prefix text prefix)
