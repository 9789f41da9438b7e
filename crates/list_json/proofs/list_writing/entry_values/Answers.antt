use Rattle.serde_json.specs.View.{view}
use Rattle.list_json.specs.ListPrinting.{entry_data}
use Rattle.list_json.proofs.Arrays.{one_written}
use Rattle.list_json.proofs.list_writing.entry_values.Goals as goal

pub loop-entry-preserved : goal.loop-entry-preserved
loop-entry-preserved c = rw c.in_ok-push-in-Ok.ensures.items (one_written (entry_data c.args.family) view c.args.entries.now c.loop-entry.entry-index c.entry-item.result c.loop-entry.values.items _ c.loop-entry-test.true c.entry-item.is c.in-Ok.ensures c.loop-entry.invariant)
