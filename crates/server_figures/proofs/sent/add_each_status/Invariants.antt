use Rattle.std.proofs.Common.{◌≡◌, ◌-◌, ◌≤◌, ◌++◌}
use Rattle.server_figures.specs.Lines.{lines_from}
use Rattle.server_figures.specs.Figures.{status_line}
use Rattle.server_figures.proofs.sent.add_each_status.Given as goal

abbrev pub invariant-loop-status : goal.invariant-loop-status
invariant-loop-status l = record { low : 100 ≤ l.status; added : l.text.items ≡ l.fn.text.items ++ lines_from (status_line l.tally) 100 (l.status - 100) }
