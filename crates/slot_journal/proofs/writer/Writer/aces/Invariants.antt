-- their number and those before this one are written, which are what their type says
use Rattle.std.proofs.Common.{◌+◌, ◌*◌, ◌∷◌, length, take}
use Rattle.std.specs.List.{AllByRecursion, flat_map}
use Rattle.slot_journal.specs.Layout.{ace_bytes}
use Rattle.slot_journal.specs.Values.{IsAce}
use Rattle.slot_journal.specs.Writing.{Writes}
use Rattle.slot_journal.proofs.writer.Writer.aces.Given as goal

abbrev pub invariant-loop-ace : goal.invariant-loop-ace
invariant-loop-ace l = record {
  written : Writes (1 + 116 * l.ace-index) (length l.aces ∷ flat_map ace_bytes (take l.ace-index l.aces)) l.fn.self l.self;
  typed : AllByRecursion IsAce (take l.ace-index l.aces);
}
