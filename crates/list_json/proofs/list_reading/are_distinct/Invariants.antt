use Rattle.std.proofs.Common.{◌≡◌, length}
use Rattle.list_json.specs.Lists.{distinct}
use Rattle.list_json.proofs.list_reading.are_distinct.Given as goal

abbrev pub invariant-loop-first : goal.invariant-loop-first
invariant-loop-first l = distinct l.aces ≡ distinct l.rest

abbrev pub decreases-loop-first : goal.decreases-loop-first
decreases-loop-first l = length l.rest
