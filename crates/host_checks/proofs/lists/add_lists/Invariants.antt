use Rattle.std.proofs.Common.{◌≡◌, ◌++◌, filter, flat_map}
use Rattle.dots_machine.specs.Report.{list_lines}
use Rattle.host_checks.specs.Lines.{active_lists}
use Rattle.host_checks.proofs.lists.add_lists.Given as goal

abbrev pub invariant-loop-row : goal.invariant-loop-row
invariant-loop-row l = record {
  added : l.text.items ++ flat_map (list_lines l.fn.settings) (filter (λ row. row.active) l.row-iterator) ≡ l.fn.text.items ++ flat_map (list_lines l.fn.settings) (active_lists l.fn.table.acls);
}
