use Rattle.std.proofs.Common.{◌≡◌, ◌++◌, take, map}
use Rattle.std.specs.List.{flat_map}
use Rattle.dots_edge.specs.HostLine.{line_value}
use Rattle.host_checks.specs.Findings.{no_address}
use Rattle.host_checks.proofs.findings.add_no_addresses.Given as goal

abbrev pub invariant-loop-row : goal.invariant-loop-row
invariant-loop-row l = record { added : l.text.items ≡ l.fn.text.items ++ flat_map (no_address (map line_value l.said)) (take l.row-index l.peers) }
