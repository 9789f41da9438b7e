use Rattle.dots_edge.specs.Places.{AreTaken}
use Rattle.dots_edge.proofs.connections.Connections.free_place.Given as goal

abbrev pub invariant-loop-place : goal.invariant-loop-place
invariant-loop-place l = AreTaken l.self l.place
