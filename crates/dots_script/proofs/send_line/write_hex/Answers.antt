use Rattle.std.proofs.Common.{◌∙◌, arith}
use Rattle.dots_script.proofs.HexPieces.{piece_written, piece_lost, last_lost, on_err}
use Rattle.dots_script.proofs.send_line.write_hex.Goals as goal

pub returns-in-Err-clause-err : goal.returns-in-Err-clause-err
returns-in-Err-clause-err g c =
    piece_lost _ _ _ _ _ c.split.result.0.now c.split.result.1.now _ c.loop-rest.rest.now c.loop-rest.invariant.owes c.split.ensures.whole c.put_hex-end.ensures.text c.in-Err.ensures.err

pub loop-rest-preserved : goal.loop-rest-preserved
loop-rest-preserved g c = record {
  end = omega arith;
  owes = piece_written _ _ _ _ _ c.split.result.0.now c.split.result.1.now _ c.loop-rest.rest.now c.loop-rest.invariant.owes c.split.ensures.whole c.put_hex-end.ensures.text c.in-Ok.ensures.ok;
  same = c.in-Ok.ensures.cause.same ∙ c.loop-rest.invariant.same;
}

pub returns-clause-err : goal.returns-clause-err
returns-clause-err g c =
    on_err c.write_all-2.result _ _ c.write_all-2.ensures.err (last_lost _ _ _ _ _ _ _ c.loop-rest.rest.now c.loop-rest.invariant.owes c.put_hex-end-2.ensures.text c.put-end.ensures.text)
