use Rattle.std.proofs.Common.{take, flat_map}
use Rattle.dots_server.specs.Gathering.{sunk, Puts}
use Rattle.dots_server.proofs.gathering.Gatherer.put_all.Given as goal

abbrev pub invariant-loop-piece : goal.invariant-loop-piece
invariant-loop-piece g l = record { puts : Puts (sunk g.K.Sink.holds g.K.Sink.faults l.fn.sink) l.fn.self (sunk g.K.Sink.holds g.K.Sink.faults l.sink) l.self (flat_map (λ piece. piece.now) (take l.piece-index l.pieces)) }
