-- the active ones of the rest are those of all
use Rattle.std.proofs.Common.{◌≡◌, drop}
use Rattle.filter_table.specs.TableRows.{active_rows}
use Rattle.filter_table.specs.Rows.{gathered}
use Rattle.filter_table.proofs.rows.next_active.Given as goal

abbrev pub invariant-loop-at : goal.invariant-loop-at
invariant-loop-at l = active_rows (gathered l.rows (drop l.at l.turns)) ≡ active_rows (gathered l.rows l.turns)
