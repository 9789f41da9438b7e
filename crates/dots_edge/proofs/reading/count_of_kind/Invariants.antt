use Rattle.std.proofs.Common.{◌≡◌, ◌+◌, ◌≤◌, map, drop}
use Rattle.dots_edge.specs.HostLine.{line_value, same_kind, how_many}
use Rattle.dots_edge.proofs.reading.count_of_kind.Given as goal

abbrev pub invariant-loop-other : goal.invariant-loop-other
invariant-loop-other l =
    (l.count + how_many (λ other. same_kind other (line_value l.line)) (map line_value (drop l.other-index l.said)) ≡ how_many (λ other. same_kind other (line_value l.line)) (map line_value l.said))
    × (l.count ≤ l.other-index)
