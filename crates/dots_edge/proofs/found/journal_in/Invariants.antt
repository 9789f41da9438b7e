use Rattle.std.proofs.Common.{◌≡◌, map, drop}
use Rattle.dots_edge.specs.HostLine.{line_value}
use Rattle.dots_edge.specs.Found.{has_journal, journal_in}
use Rattle.dots_edge.proofs.found.journal_in.Given as goal

abbrev pub invariant-loop-line : goal.invariant-loop-line
invariant-loop-line l =
    (has_journal (map line_value (drop l.line-index l.lines)) ≡ has_journal (map line_value l.lines))
    × (journal_in (map line_value (drop l.line-index l.lines)) ≡ journal_in (map line_value l.lines))
