use Rattle.std.proofs.Common.{length}
use Rattle.http_cut.specs.Owned.{owned_values}
use Rattle.http_cut.specs.Streams.{AreTaken}
use Rattle.http_cut.proofs.taking.take_out.Given as goal

abbrev pub invariant-requests : goal.invariant-requests
invariant-requests l = AreTaken l.fn.stream (owned_values l.fn.out) (owned_values l.out) l.stream

abbrev pub decreases-requests : goal.decreases-requests
decreases-requests l = length l.stream
