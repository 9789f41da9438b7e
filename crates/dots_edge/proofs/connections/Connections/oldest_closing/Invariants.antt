use Rattle.dots_edge.specs.Places.{IsFirst}
use Rattle.dots_edge.proofs.connections.Connections.oldest_closing.Given as goal

abbrev pub invariant-loop-place : goal.invariant-loop-place
invariant-loop-place l = IsFirst l.self l.place l.first
