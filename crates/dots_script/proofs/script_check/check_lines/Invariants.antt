use Rattle.std.proofs.Common.{length}
use Rattle.dots_script.proofs.Passing.{HasPassed}
use Rattle.dots_script.proofs.script_check.check_lines.Given as goal

abbrev pub invariant-loop-rest : goal.invariant-loop-rest
invariant-loop-rest l = HasPassed l.script l.rest l.number l.events

abbrev pub decreases-loop-rest : goal.decreases-loop-rest
decreases-loop-rest l = length l.rest
