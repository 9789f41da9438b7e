use Rattle.dots_host.proofs.Wrote.{begun_more, lost_one}
use Rattle.ask_agent.specs.Report.{granted_line}
use Rattle.ask_agent.proofs.report.write_granted.Goals as goal

pub returns-in-Err : goal.returns-in-Err
returns-in-Err g c =
    lost_one granted_line c.args.rows.now c.loop-row.row-index _ _ _ _ _ _ _ _ _ c.loop-row-test.true c.row-item.is c.loop-row.invariant c.in-Err.ensures.err c.in-Err.ensures.cause.later
    c.in-Err.ensures.cause.rose

pub loop-row-preserved : goal.loop-row-preserved
loop-row-preserved g c =
    begun_more granted_line c.args.rows.now c.loop-row.row-index _ _ _ _ _ _ _ _ c.loop-row-test.true c.row-item.is c.loop-row.invariant c.in-Ok.ensures.ok c.in-Ok.ensures.cause.same
