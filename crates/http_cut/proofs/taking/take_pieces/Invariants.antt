use Rattle.std.proofs.Common.{drop, flat_map}
use Rattle.http_cut.specs.Owned.{owned_values}
use Rattle.http_cut.specs.Requests.{IsCut, waits}
use Rattle.http_cut.proofs.Takings.{HasCome}
use Rattle.http_cut.proofs.taking.take_pieces.Given as goal

abbrev pub invariant-loop-piece : goal.invariant-loop-piece
invariant-loop-piece l = record {
  come : HasCome l.fn.stream (flat_map (λ piece. piece.now) l.pieces) (flat_map (λ piece. piece.now) (drop l.piece-index l.pieces)) (owned_values l.fn.out) (owned_values l.out) l.stream;
  waiting : IsCut l.stream waits;
}
