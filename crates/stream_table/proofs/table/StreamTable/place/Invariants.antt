-- the number isn't in the rows before the one at hand
use Rattle.std.proofs.Common.{◌≡◌, false, take}
use Rattle.std.specs.List.{list_any}
use Rattle.stream_table.specs.Lines.{is_number, all_lines}
use Rattle.stream_table.proofs.table.StreamTable.place.Given as goal

abbrev pub invariant-loop-row : goal.invariant-loop-row
invariant-loop-row g l = list_any (is_number l.conn) (all_lines (take l.row l.lines-items)) ≡ false
