use Rattle.std.proofs.Common.{refl}
use Rattle.dots_host.proofs.Wrote.{lost_one}
use Rattle.ask_agent.specs.Report.{unsent_line}
use Rattle.ask_agent.proofs.report.write_unsent.Goals as goal

pub returns-in-Err : goal.returns-in-Err
returns-in-Err g c =
    lost_one unsent_line c.args.asks.now c.loop-ask.ask-index _ _ _ _ _ _ _ _ _ c.loop-ask-test.true refl c.loop-ask.invariant c.in-Err.ensures.err c.in-Err.ensures.cause.later
    c.in-Err.ensures.cause.rose
