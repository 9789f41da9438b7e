use Rattle.std.proofs.Common.{◌≡◌, ◌++◌, map, drop}
use Rattle.host_checks.specs.Ends.{scrub_value}
use Rattle.host_checks.specs.Shown.{row_ends}
use Rattle.host_checks.proofs.shown.add_row_ends.Given as goal

abbrev pub invariant-loop-row : goal.invariant-loop-row
invariant-loop-row l = record {
  added : l.ends ++ row_ends l.now (map scrub_value (drop l.row-index l.rows)) ≡ l.fn.ends ++ row_ends l.now (map scrub_value l.rows);
}
