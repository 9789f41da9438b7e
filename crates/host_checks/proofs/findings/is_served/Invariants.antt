use Rattle.std.proofs.Common.{◌≡◌, map, drop}
use Rattle.std.specs.List.{list_any}
use Rattle.dots_edge.specs.HostLine.{line_value}
use Rattle.host_checks.specs.Findings.{serves}
use Rattle.host_checks.proofs.findings.is_served.Given as goal

abbrev pub invariant-loop-line : goal.invariant-loop-line
invariant-loop-line l = list_any (serves l.address) (map line_value (drop l.line-index l.said)) ≡ list_any (serves l.address) (map line_value l.said)
