use Rattle.std.proofs.Common.{◌≡◌, drop}
use Rattle.dots_lists.specs.Lines.{lines_of}
use Rattle.host_checks.proofs.host_fault.from_line.Given as goal

abbrev pub invariant-loop-turn : goal.invariant-loop-turn
invariant-loop-turn l = record { left : lines_of l.rest ≡ drop l._turn (lines_of l.file) }
