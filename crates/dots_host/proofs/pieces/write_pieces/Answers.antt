use Rattle.std.proofs.Common.{refl}
use Rattle.dots_host.proofs.Wrote.{lost_one}
use Rattle.dots_host.proofs.pieces.write_pieces.Goals as goal

pub returns-in-Err : goal.returns-in-Err
returns-in-Err g c =
    lost_one _ c.args.pieces.now c.loop-piece.piece-index _ _ _ _ _ _ _ _ _ c.loop-piece-test.true refl c.loop-piece.invariant c.in-Err.ensures.err c.in-Err.ensures.cause.later
    c.in-Err.ensures.cause.rose
