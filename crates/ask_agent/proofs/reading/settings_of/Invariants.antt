use Rattle.std.proofs.Common.{length}
use Rattle.ask_agent.proofs.Steps.{IsReadTo}
use Rattle.ask_agent.proofs.reading.settings_of.Given as goal

abbrev pub invariant-loop-line : goal.invariant-loop-line
invariant-loop-line l = IsReadTo l.content l.rest l.number l.draft

abbrev pub decreases-loop-line : goal.decreases-loop-line
decreases-loop-line l = length l.rest
