use Rattle.std.proofs.Common.{◌≡◌, map, drop}
use Rattle.std.specs.List.{list_any}
use Rattle.dots_edge.specs.HostLine.{line_value}
use Rattle.host_checks.specs.Findings.{is_of_peer}
use Rattle.host_checks.proofs.findings.has_address.Given as goal

abbrev pub invariant-loop-line : goal.invariant-loop-line
invariant-loop-line l = list_any (is_of_peer l.peer) (map line_value (drop l.line-index l.said)) ≡ list_any (is_of_peer l.peer) (map line_value l.said)
