use Rattle.std.proofs.Common.{length}
use Rattle.http_cut.specs.Owned.{owned_values}
use Rattle.http_cut.proofs.Takings.{HasCome}
use Rattle.http_cut.proofs.taking.take_piece.Given as goal

abbrev pub invariant-bytes : goal.invariant-bytes
invariant-bytes l = HasCome l.fn.stream l.fn.piece l.rest (owned_values l.fn.out) (owned_values l.out) l.stream

abbrev pub decreases-bytes : goal.decreases-bytes
decreases-bytes l = length l.rest
