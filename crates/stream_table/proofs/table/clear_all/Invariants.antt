-- the rows before the one at hand are empty
use Rattle.std.proofs.Common.{◌≡◌, ◌++◌, map, take, drop}
use Rattle.stream_table.specs.Lines.{row_emptied}
use Rattle.stream_table.proofs.table.clear_all.Given as goal

abbrev pub invariant-loop-row : goal.invariant-loop-row
invariant-loop-row g l = l.rows ≡ map row_emptied (take l.row-index l.fn.rows) ++ drop l.row-index l.fn.rows
