use Rattle.dots_host.proofs.Wrote.{Begun}
use Rattle.ask_agent.specs.Report.{unsent_line}
use Rattle.ask_agent.proofs.report.write_unsent.Given as goal

abbrev pub invariant-loop-ask : goal.invariant-loop-ask
invariant-loop-ask g l = Begun unsent_line l.asks l.ask-index (g.K.Sink.holds l.fn.report) (g.K.Sink.faults l.fn.report) (g.K.Sink.holds l.report) (g.K.Sink.faults l.report)
