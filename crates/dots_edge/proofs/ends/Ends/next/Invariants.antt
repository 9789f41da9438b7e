use Rattle.std.proofs.Common.{◌+◌, ◌≤◌, length}
use Rattle.dots_edge.specs.Came.{Passed}
use Rattle.dots_edge.specs.Places.{SameOpen}
use Rattle.dots_edge.proofs.ends.Ends.next.Given as goal

abbrev pub invariant-loop : goal.invariant-loop
invariant-loop g l = record {
  passed : Passed l.initial.self l.self;
  same : SameOpen l.initial.self.connections l.self.connections;
  clock : length l.initial.self.clock.answers + l.counter ≤ length l.self.clock.answers;
}
