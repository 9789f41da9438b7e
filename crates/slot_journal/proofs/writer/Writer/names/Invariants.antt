-- their number and those before this one are written, which are what their type says
use Rattle.std.proofs.Common.{◌+◌, ◌*◌, ◌∷◌, length, take}
use Rattle.std.specs.List.{AllByRecursion, flat_map}
use Rattle.slot_journal.specs.Layout.{counted}
use Rattle.slot_journal.specs.Values.{IsName}
use Rattle.slot_journal.specs.Writing.{Writes}
use Rattle.slot_journal.proofs.writer.Writer.names.Given as goal

abbrev pub invariant-loop-name : goal.invariant-loop-name
invariant-loop-name l = record {
  written : Writes (1 + 65 * l.name-index) (length l.names ∷ flat_map counted (take l.name-index l.names)) l.fn.self l.self;
  typed : AllByRecursion IsName (take l.name-index l.names);
}
