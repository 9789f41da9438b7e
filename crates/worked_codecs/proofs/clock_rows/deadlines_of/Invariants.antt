use Rattle.std.proofs.Common.{◌≡◌, ◌≤◌, length}
use Rattle.lifetime_clock.specs.Times.{count}
use Rattle.worked_codecs.proofs.clock_rows.deadlines_of.Given as goal

abbrev pub invariant-loop-key : goal.invariant-loop-key
invariant-loop-key l = (l.deadlines.room ≡ length l.rows) × (count l.deadlines ≤ l.key-index)
