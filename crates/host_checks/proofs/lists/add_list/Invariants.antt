use Rattle.std.proofs.Common.{◌≡◌, ◌++◌, drop, flat_map}
use Rattle.dots_machine.specs.Report.{ace_lines, list_lines}
use Rattle.host_checks.proofs.lists.add_list.Given as goal

abbrev pub invariant-loop-ace : goal.invariant-loop-ace
invariant-loop-ace l = record {
  added : l.text.items ++ flat_map (ace_lines l.fn.settings l.fn.row) (drop l.ace-index l.ace-items) ≡ l.fn.text.items ++ list_lines l.fn.settings l.fn.row;
}
