use Rattle.std.proofs.Common.{◌≡◌, ◌-◌, ◌≤◌, ◌++◌}
use Rattle.server_figures.specs.Lines.{lines_from}
use Rattle.server_figures.specs.Figures.{code_line}
use Rattle.server_figures.proofs.sent.add_each_code.Given as goal

abbrev pub invariant-loop-code : goal.invariant-loop-code
invariant-loop-code l = record { low : 64 ≤ l.code; added : l.text.items ≡ l.fn.text.items ++ lines_from (code_line l.tally) 64 (l.code - 64) }
