use Rattle.std.proofs.Common.{◌≡◌, ℕ, ◌+◌, ◌%◌, ◌<◌, ◌≤◌}
use Rattle.dots_edge.specs.Places.{SameOpen, at_place}
use Rattle.dots_edge.specs.Gone.{AreOn}
use Rattle.dots_edge.specs.Idle.{ahead, WasTried}
use Rattle.dots_edge.proofs.connections.Connections.next_piece.Given as goal

abbrev pub invariant-loop : goal.invariant-loop
invariant-loop l = record {
  on : AreOn l.initial.self l.self;
  same_open : SameOpen l.initial.self l.self;
  turn : l.self.turn % 128 ≡ (l.initial.self.turn + l.counter) % 128;
  tried : (place : ℕ) → place < 128 → ahead l.initial.self.turn place < l.counter →
      WasTried (at_place l.initial.self place) (at_place l.self place);
  same : (place : ℕ) → place < 128 → l.counter ≤ ahead l.initial.self.turn place →
      at_place l.self place ≡ at_place l.initial.self place;
}
