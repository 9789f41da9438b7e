use Rattle.std.proofs.Common.{length, map}
use Rattle.dots_edge.specs.HostLine.{line_value}
use Rattle.dots_edge.proofs.ReadTo.{IsReadTo}
use Rattle.dots_edge.proofs.reading.read_host_file.Given as goal

abbrev pub invariant-loop-line : goal.invariant-loop-line
invariant-loop-line l = IsReadTo l.file l.rest l.number (map line_value l.said.items)

abbrev pub decreases-loop-line : goal.decreases-loop-line
decreases-loop-line l = length l.rest
