use Rattle.std.proofs.Common.{◌≡◌, ◌*◌}
use Rattle.dots_load.specs.Draws.{number_after}
use Rattle.dots_load.specs.Events.{events_to}
use Rattle.dots_load.proofs.events.push_events.Given as goal

abbrev pub invariant-loop-k : goal.invariant-loop-k
invariant-loop-k l = record {
  number : l.draws.number ≡ number_after l.seed (4 * l.k);
  host : l.host ≡ record l.fn.host { coming = events_to l.seed l.k };
}
