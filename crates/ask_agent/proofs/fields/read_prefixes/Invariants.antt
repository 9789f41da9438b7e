use Rattle.std.proofs.Common.{◌≡◌, map, length}
use Rattle.ip_scope.specs.PrefixReader.{prefix_in}
use Rattle.ask_agent.specs.Lines.{all_some}
use Rattle.ask_agent.proofs.Lists.{behind}
use Rattle.ask_agent.proofs.fields.read_prefixes.Given as goal

abbrev pub invariant-loop-rest : goal.invariant-loop-rest
invariant-loop-rest l = all_some (map prefix_in (map (λ text. text.now) l.texts)) ≡ behind l.prefixes (all_some (map prefix_in (map (λ text. text.now) l.rest)))

abbrev pub decreases-loop-rest : goal.decreases-loop-rest
decreases-loop-rest l = length l.rest
