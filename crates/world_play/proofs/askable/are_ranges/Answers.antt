use Rattle.dots_client.specs.Asked.{IsRange}
use Rattle.slot_journal.proofs.Writings.{all_next}
use Rattle.world_play.proofs.askable.are_ranges.Goals as goal

pub loop-range-preserved : goal.loop-range-preserved
loop-range-preserved c = record { typed = all_next IsRange c.loop-range.range-index c.args.ranges.now c.range-item.result c.loop-range-test.true c.range-item.is c.loop-range.invariant.typed c.is_range.ensures }
