use Rattle.std.proofs.Common.{◌≡◌, ◌+◌, ◌≤◌, map, drop}
use Rattle.dots_edge.specs.HostLine.{line_value, how_many}
use Rattle.host_checks.specs.Findings.{is_signal}
use Rattle.host_checks.proofs.findings.count_signal.Given as goal

abbrev pub invariant-loop-line : goal.invariant-loop-line
invariant-loop-line l =
    (l.count + how_many is_signal (map line_value (drop l.line-index l.said)) ≡ how_many is_signal (map line_value l.said)) × (l.count ≤ l.line-index)
