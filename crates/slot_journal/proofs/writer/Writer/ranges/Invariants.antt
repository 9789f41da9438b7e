-- their number and those before this one are written, which are what their type says
use Rattle.std.proofs.Common.{◌+◌, ◌*◌, ◌∷◌, length, take}
use Rattle.std.specs.List.{AllByRecursion, flat_map}
use Rattle.slot_journal.specs.Layout.{ports_bytes}
use Rattle.slot_journal.specs.Values.{IsRange}
use Rattle.slot_journal.specs.Writing.{Writes}
use Rattle.slot_journal.proofs.writer.Writer.ranges.Given as goal

abbrev pub invariant-loop-ports : goal.invariant-loop-ports
invariant-loop-ports l = record {
  written : Writes (1 + 4 * l.ports-index) (length l.ranges ∷ flat_map ports_bytes (take l.ports-index l.ranges)) l.fn.self l.self;
  typed : AllByRecursion IsRange (take l.ports-index l.ranges);
}
