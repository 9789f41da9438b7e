use Rattle.std.proofs.Common.{◌≡◌, ◌≤◌}
use Rattle.lifetime_clock.specs.Times.{count}
use Rattle.dots_bench.proofs.cycle.fill.Given as goal

abbrev pub invariant-loop-key : goal.invariant-loop-key
invariant-loop-key l = (l.deadlines.room ≡ l.keys) × (count l.deadlines ≤ l.key)
