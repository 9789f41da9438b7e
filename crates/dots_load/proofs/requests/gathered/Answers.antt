use Rattle.dots_load.proofs.Options.{parts_step, values_step}
use Rattle.dots_load.proofs.requests.gathered.Goals as goal

pub loop-row-preserved : goal.loop-row-preserved
loop-row-preserved c = record {
  parts = parts_step c.args.rows.now c.loop-row.row-index _ c.loop-row.options.items _ c.loop-row.invariant.parts c.in_ok-push.ensures.items c.loop-row-test.true;
  bytes = values_step c.args.rows.now c.loop-row.row-index _ c.loop-row.values.items _ c.loop-row.invariant.bytes c.in_ok-extend_from_slice.ensures.items c.loop-row-test.true;
}
