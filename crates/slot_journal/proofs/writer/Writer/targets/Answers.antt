use Rattle.std.proofs.Common.{arith}
use Rattle.slot_journal.specs.Values.{IsTarget}
use Rattle.slot_journal.proofs.Writings.{all_next, one_target, item_count}
use Rattle.slot_journal.proofs.writer.Writer.targets.Goals as goal

pub target-requires-clause-prefixes : goal.target-requires-clause-prefixes
target-requires-clause-prefixes c = omega (arith, c.requires.prefixes, item_count c.loop-target.target-index c.args.targets.now c.target-item.result c.loop-target-test.true c.target-item.is)

pub loop-target-preserved : goal.loop-target-preserved
loop-target-preserved c = record {
  written = one_target c.loop-target.target-index c.args.targets.now c.target-item.result c.loop-target-test.true c.target-item.is c.loop-target.invariant.written c.target.ensures.written;
  typed = all_next IsTarget c.loop-target.target-index c.args.targets.now c.target-item.result c.loop-target-test.true c.target-item.is c.loop-target.invariant.typed c.target.ensures.typed;
}
