use Rattle.std.proofs.Common.{◌≡◌, ◌++◌, flat_map}
use Rattle.filter_table.specs.TableRows.{active_rows}
use Rattle.dots_machine.specs.Report.{scrub_line}
use Rattle.host_checks.proofs.report.add_rows.Given as goal

abbrev pub invariant-loop-row : goal.invariant-loop-row
invariant-loop-row l = record {
  added : l.text.items ++ flat_map (scrub_line l.fn.settings) l.row-iterator ≡ l.fn.text.items ++ flat_map (scrub_line l.fn.settings) (active_rows l.fn.table.scrubs);
}
