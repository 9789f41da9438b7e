-- the rows before the one at hand are set
use Rattle.std.proofs.Common.{◌≡◌, ◌++◌, map, take, drop}
use Rattle.filter_table.specs.TableRows.{row_set}
use Rattle.installed_filters.proofs.mitigations.set_each.Given as goal

abbrev pub invariant-loop-row : goal.invariant-loop-row
invariant-loop-row l = l.rows ≡ map (row_set l.active) (take l.row-index l.fn.rows) ++ drop l.row-index l.fn.rows
