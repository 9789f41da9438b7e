-- in the rows before the one at hand the number is forgotten
use Rattle.std.proofs.Common.{◌≡◌, ◌++◌, map, take, drop}
use Rattle.stream_table.specs.Lines.{row_forgotten}
use Rattle.stream_table.proofs.table.forget_all.Given as goal

abbrev pub invariant-loop-row : goal.invariant-loop-row
invariant-loop-row g l = l.rows ≡ map (row_forgotten l.conn) (take l.row-index l.fn.rows) ++ drop l.row-index l.fn.rows
