-- their number and those before this one are written, which are what their type says
use Rattle.std.proofs.Common.{◌+◌, ◌*◌, ◌∷◌, length, take}
use Rattle.std.specs.List.{AllByRecursion, flat_map}
use Rattle.dots_history.specs.Bounds.{prefix_count}
use Rattle.slot_journal.specs.Layout.{target_bytes}
use Rattle.slot_journal.specs.Values.{IsTarget}
use Rattle.slot_journal.specs.Writing.{Writes}
use Rattle.slot_journal.proofs.writer.Writer.targets.Given as goal

abbrev pub invariant-loop-target : goal.invariant-loop-target
invariant-loop-target l = record {
  written : Writes (1 + (163 * l.target-index + 18 * prefix_count (take l.target-index l.targets))) (length l.targets ∷ flat_map target_bytes (take l.target-index l.targets)) l.fn.self l.self;
  typed : AllByRecursion IsTarget (take l.target-index l.targets);
}
