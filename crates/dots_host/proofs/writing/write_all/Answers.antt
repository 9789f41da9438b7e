use Rattle.std.proofs.Common.{arith, ◌∙◌}
use Rattle.dots_host.proofs.WriteLemmas.{wrote_more, wrote_front}
use Rattle.dots_host.proofs.writing.write_all.Goals as goal

pub loop-written-preserved : goal.loop-written-preserved
loop-written-preserved g c = record {
  within = omega (arith, c.in-Ok.ensures.bound, c.loop-written-test.true);
  so_far = wrote_more _ _ _ c.args.bytes.now c.loop-written.written c.in-Ok.count c.loop-written.invariant.so_far c.in-Ok.ensures.written;
  same = c.in-Ok.ensures.cause.same ∙ c.loop-written.invariant.same;
}

pub returns-in-Err-clause-err : goal.returns-in-Err-clause-err
returns-in-Err-clause-err g c = wrote_front _ _ _ c.args.bytes.now c.loop-written.written c.loop-written.invariant.so_far c.in-Err.ensures.written
