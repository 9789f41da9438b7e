-- those before the one at hand have their new numbers
use Rattle.std.proofs.Common.{◌≡◌, ◌++◌, map, take, drop}
use Rattle.held_resources.specs.Rows.{renumbered}
use Rattle.held_resources.proofs.rows.renumber_all.Given as goal

abbrev pub invariant-loop-row : goal.invariant-loop-row
invariant-loop-row l = l.rows ≡ map (renumbered l.keep) (take l.row-index l.fn.rows) ++ drop l.row-index l.fn.rows
