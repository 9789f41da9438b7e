-- those before the one at hand have their new numbers
use Rattle.std.proofs.Common.{◌≡◌, ◌++◌, map, take, drop}
use Rattle.live_mitigations.specs.Numbers.{table_renumbered}
use Rattle.live_mitigations.proofs.tables.renumber_lists.Given as goal

abbrev pub invariant-loop-list : goal.invariant-loop-list
invariant-loop-list l = l.lists ≡ map (table_renumbered l.keep) (take l.list-index l.fn.lists) ++ drop l.list-index l.fn.lists
