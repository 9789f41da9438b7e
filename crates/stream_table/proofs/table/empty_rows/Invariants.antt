-- the peers before the one at hand have their rows
use Rattle.std.proofs.Common.{◌≡◌, take}
use Rattle.std.specs.List.{flat_map}
use Rattle.stream_table.specs.Lines.{no_lines}
use Rattle.stream_table.proofs.table.empty_rows.Given as goal

abbrev pub invariant-loop-row : goal.invariant-loop-row
invariant-loop-row g l = l.rows.items ≡ flat_map no_lines (take l.row-index l.row-items)
