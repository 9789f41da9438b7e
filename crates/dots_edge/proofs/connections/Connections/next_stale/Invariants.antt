use Rattle.std.proofs.Common.{◌≡◌, ◌+◌}
use Rattle.dots_edge.specs.Places.{SameOpen, AreSwept, NoneEnds}
use Rattle.dots_edge.specs.Gone.{AreOn}
use Rattle.dots_edge.proofs.connections.Connections.next_stale.Given as goal

abbrev pub invariant-loop : goal.invariant-loop
invariant-loop l = record {
  on : AreOn l.initial.self l.self;
  same_open : SameOpen l.initial.self l.self;
  next : l.self.swept ≡ l.initial.self.swept + l.counter;
  swept : AreSwept l.initial.self l.now l.initial.self.swept l.self.swept l.self;
  none : NoneEnds l.initial.self l.now l.initial.self.swept l.self.swept;
}
