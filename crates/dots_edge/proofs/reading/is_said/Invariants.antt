use Rattle.std.proofs.Common.{◌≡◌, map, drop}
use Rattle.std.specs.List.{list_any}
use Rattle.dots_edge.specs.HostLine.{line_value, same_thing}
use Rattle.dots_edge.proofs.reading.is_said.Given as goal

abbrev pub invariant-loop-other : goal.invariant-loop-other
invariant-loop-other l =
    list_any (λ other. same_thing other (line_value l.line)) (map line_value (drop l.other-index l.said)) ≡ list_any (λ other. same_thing other (line_value l.line)) (map line_value l.said)
