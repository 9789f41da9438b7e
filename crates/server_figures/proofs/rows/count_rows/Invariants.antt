use Rattle.std.proofs.Common.{◌≡◌, ◌+◌, length}
use Rattle.filter_table.specs.TableRows.{active_rows}
use Rattle.server_figures.proofs.rows.count_rows.Given as goal

abbrev pub invariant-loop-row : goal.invariant-loop-row
invariant-loop-row l = record { counted : l.rows + length l._row-iterator ≡ length (active_rows l.fn.table.scrubs) }
