use Rattle.dots_host.proofs.Wrote.{Begun}
use Rattle.ask_agent.specs.Report.{granted_line}
use Rattle.ask_agent.proofs.report.write_granted.Given as goal

abbrev pub invariant-loop-row : goal.invariant-loop-row
invariant-loop-row g l = Begun granted_line l.rows l.row-index (g.K.Sink.holds l.fn.report) (g.K.Sink.faults l.fn.report) (g.K.Sink.holds l.report) (g.K.Sink.faults l.report)
