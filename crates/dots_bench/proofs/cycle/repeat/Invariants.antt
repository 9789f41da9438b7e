use Rattle.std.proofs.Common.{◌≤◌}
use Rattle.lifetime_clock.specs.Times.{count}
use Rattle.dots_bench.proofs.cycle.repeat.Given as goal

abbrev pub invariant-loop : goal.invariant-loop
invariant-loop l = (count l.deadlines ≤ l.deadlines.room) × (l.order.answered ≤ l.counter)
