-- the rest leads from the status so far to the same one
use Rattle.std.proofs.Common.{◌≡◌, drop}
use Rattle.dots_history.specs.Histories.{status}
use Rattle.dots_history.proofs.lives.status_after.Given as goal

abbrev pub invariant-loop-entry : goal.invariant-loop-entry
invariant-loop-entry l = status l.put l.now (drop l.entry-index l.later) ≡ status l.put l.fn.old l.later
