use Rattle.std.proofs.Common.{◌≡◌, ◌++◌, drop, map}
use Rattle.std.specs.List.{flat_map}
use Rattle.dots_edge.specs.HostLine.{line_value}
use Rattle.host_checks.specs.Findings.{of_line}
use Rattle.host_checks.proofs.findings.add_lines.Given as goal

abbrev pub invariant-loop-line : goal.invariant-loop-line
invariant-loop-line l = record {
  added : l.text.items ++ flat_map (of_line l.settings (map line_value l.said)) (map line_value (drop l.line-index l.said))
      ≡ l.fn.text.items ++ flat_map (of_line l.settings (map line_value l.said)) (map line_value l.said);
}
