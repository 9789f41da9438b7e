use Rattle.std.proofs.Common.{◌∙◌, arith}
use Rattle.std.proofs.lemmas.Result.{err_from_is_err_and}
use Rattle.slot_journal.proofs.Loops.{exactly_stop, exactly_go, exactly_done}
use Rattle.slot_journal.proofs.reader.Reader.exactly.Goals as goal

pub returns-in_err-within-clause-value : goal.returns-in_err-within-clause-value
returns-in_err-within-clause-value c =
    let p = err_from_is_err_and c.from_residual.result c.from_residual.ensures.1 in
    rw (p.1, p.2) (exactly_stop c.in_err-within.field-0.0 c.loop-byte.byte-index c.loop-byte.self.end _ c.args.bytes.now c.loop-byte.self.rest.now _ c.loop-byte-test.true c.in_err-within.ensures.value c.loop-byte.invariant.read)

pub loop-byte-preserved : goal.loop-byte-preserved
loop-byte-preserved c =
    let go = exactly_go c.loop-byte.byte-index c.loop-byte.self.end _ c.in_ok-within.field-0 c.args.bytes.now c.loop-byte.self.rest.now c.within.new.self.rest.now _
    c.loop-byte-test.true c.in_ok-within.ensures.value c.loop-byte.invariant.read in
    record {
      read = rw (c.in_ok-within.ensures.end) go;
      end = c.in_ok-within.ensures.end ∙ c.loop-byte.invariant.end;
    }

pub returns-clause-value : goal.returns-clause-value
returns-clause-value c = exactly_done c.loop-byte.byte-index c.loop-byte.self.end c.args.bytes.now c.loop-byte.self.rest.now _ (omega (arith, c.loop-byte-test.false)) c.loop-byte.invariant.read
