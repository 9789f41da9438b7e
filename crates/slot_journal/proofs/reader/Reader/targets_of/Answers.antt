use Rattle.std.proofs.Common.{◌+◌, ◌-◌, ◌∙◌, arith}
use Rattle.std.proofs.lemmas.Result.{err_from_is_err_and}
use Rattle.slot_journal.proofs.Loops.{targets_stop, targets_go, targets_done}
use Rattle.slot_journal.proofs.reader.Reader.targets_of.Goals as goal

pub returns-in_err-target-clause-value : goal.returns-in_err-target-clause-value
returns-in_err-target-clause-value c =
    let p = err_from_is_err_and c.from_residual.result c.from_residual.ensures.1 in
    rw (p.1, p.2) (targets_stop c.in_err-target.field-0.0 (c.args.count - c.loop.counter) c.loop.room c.loop.self.end c.loop.targets c.loop.self.rest.now _ (omega (arith, c.loop-test.true)) c.in_err-target.ensures.value c.loop.invariant.read)

pub loop-preserved : goal.loop-preserved
loop-preserved c =
    let go = targets_go (c.args.count - c.loop.counter) (c.args.count - (c.loop.counter + 1)) c.loop.room c.loop.self.end c.loop.targets c.in_ok-target.target c.loop.self.rest.now c.target.new.self.rest.now _
    (omega (arith, c.loop-test.true)) c.in_ok-target.ensures.value c.loop.invariant.read in
    record {
      read = rw (c.in_ok-target.ensures.end, c.in_ok-push.ensures.ok, c.items.ensures) go;
      end = c.in_ok-target.ensures.end ∙ c.loop.invariant.end;
      room = omega (arith, c.loop.invariant.room);
    }

pub returns-clause-value : goal.returns-clause-value
returns-clause-value c = targets_done (c.args.count - c.loop.counter) c.loop.room c.loop.self.end c.loop.targets c.loop.self.rest.now _ (omega (arith, c.loop-test.false)) c.loop.invariant.read
