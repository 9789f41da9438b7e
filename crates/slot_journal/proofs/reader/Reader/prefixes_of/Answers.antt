use Rattle.std.proofs.Common.{◌+◌, ◌-◌, ◌∙◌, length-append, arith}
use Rattle.std.proofs.lemmas.Result.{err_from_is_err_and}
use Rattle.slot_journal.specs.RecordReading.{prefix_at}
use Rattle.slot_journal.proofs.Loops.{items_stop, items_go, items_done}
use Rattle.slot_journal.proofs.reader.Reader.prefixes_of.Goals as goal

pub returns-in_err-prefix-clause-value : goal.returns-in_err-prefix-clause-value
returns-in_err-prefix-clause-value c =
    let p = err_from_is_err_and c.from_residual.result c.from_residual.ensures.1 in
    rw (p.1, p.2) (items_stop c.in_err-prefix.field-0.0 prefix_at (c.args.count - c.loop.counter) c.loop.self.end c.loop.prefixes c.loop.self.rest.now _ (omega (arith, c.loop-test.true)) c.in_err-prefix.ensures.value c.loop.invariant.read)

pub loop-preserved : goal.loop-preserved
loop-preserved c =
    let go = items_go prefix_at (c.args.count - c.loop.counter) (c.args.count - (c.loop.counter + 1)) c.loop.self.end c.loop.prefixes c.in_ok-prefix.prefix c.loop.self.rest.now c.prefix.new.self.rest.now _
    (omega (arith, c.loop-test.true)) c.in_ok-prefix.ensures.value c.loop.invariant.read in
    record {
      read = rw (c.in_ok-prefix.ensures.end, c.in_ok-push.ensures.ok) go;
      end = c.in_ok-prefix.ensures.end ∙ c.loop.invariant.end;
      size = rw (c.in_ok-push.ensures.ok) (simp length-append (omega (arith, c.loop.invariant.size)));
    }

pub returns-clause-value : goal.returns-clause-value
returns-clause-value c = items_done prefix_at (c.args.count - c.loop.counter) c.loop.self.end c.loop.prefixes c.loop.self.rest.now _ (omega (arith, c.loop-test.false)) c.loop.invariant.read
