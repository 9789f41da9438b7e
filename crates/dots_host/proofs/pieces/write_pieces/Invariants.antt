use Rattle.dots_host.proofs.Wrote.{Begun}
use Rattle.dots_host.proofs.pieces.write_pieces.Given as goal

abbrev pub invariant-loop-piece : goal.invariant-loop-piece
invariant-loop-piece g l = Begun (λ piece. piece.now) l.pieces l.piece-index (g.K.Sink.holds l.fn.sink) (g.K.Sink.faults l.fn.sink) (g.K.Sink.holds l.sink) (g.K.Sink.faults l.sink)
