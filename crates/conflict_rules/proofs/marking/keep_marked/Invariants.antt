use Rattle.std.proofs.Common.{◌≡◌, ◌++◌, drop}
use Rattle.conflict_rules.specs.Marking.{marked}
use Rattle.conflict_rules.proofs.marking.keep_marked.Given as goal

abbrev pub invariant-loop-prefix : goal.invariant-loop-prefix
invariant-loop-prefix l = record { so_far : l.kept ++ marked (drop l.prefix-index l.prefixes) l.left ≡ marked l.prefixes l.bits }
