-- their number and those before this one are written, which are what their type says
use Rattle.std.proofs.Common.{◌+◌, ◌*◌, ◌∷◌, length, take}
use Rattle.std.specs.List.{AllByRecursion, flat_map}
use Rattle.slot_journal.specs.Layout.{prefix_bytes}
use Rattle.ip_scope.specs.Prefix.{IsPrefix}
use Rattle.slot_journal.specs.Writing.{Writes}
use Rattle.slot_journal.proofs.writer.Writer.prefixes.Given as goal

abbrev pub invariant-loop-prefix : goal.invariant-loop-prefix
invariant-loop-prefix l = record {
  written : Writes (1 + 18 * l.prefix-index) (length l.prefixes ∷ flat_map prefix_bytes (take l.prefix-index l.prefixes)) l.fn.self l.self;
  typed : AllByRecursion IsPrefix (take l.prefix-index l.prefixes);
}
