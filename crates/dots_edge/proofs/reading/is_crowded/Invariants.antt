use Rattle.std.proofs.Common.{◌≡◌, map, drop}
use Rattle.std.specs.List.{list_any}
use Rattle.dots_edge.specs.HostLine.{line_value, crowds}
use Rattle.dots_edge.proofs.reading.is_crowded.Given as goal

abbrev pub invariant-loop-other : goal.invariant-loop-other
invariant-loop-other l =
    list_any (λ other. crowds other (line_value l.line)) (map line_value (drop l.other-index l.said)) ≡ list_any (λ other. crowds other (line_value l.line)) (map line_value l.said)
