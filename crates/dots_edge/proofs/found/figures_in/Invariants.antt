use Rattle.std.proofs.Common.{◌≡◌, map, drop}
use Rattle.dots_edge.specs.HostLine.{line_value}
use Rattle.dots_edge.specs.Found.{figures_in}
use Rattle.dots_edge.proofs.found.figures_in.Given as goal

abbrev pub invariant-loop-line : goal.invariant-loop-line
invariant-loop-line l = figures_in (map line_value (drop l.line-index l.lines)) ≡ figures_in (map line_value l.lines)
