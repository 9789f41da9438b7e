use Rattle.std.proofs.Common.{◌++◌, ◌∙◌}
use Rattle.dots_machine.specs.Report.{scrub_line}
use Rattle.dots_server.proofs.Puts.{puts_then}
use Rattle.dots_server.proofs.ReportTexts.{row_more, puts_line}
use Rattle.dots_server.proofs.report.put_scrubs.Goals as goal

pub loop-row-preserved : goal.loop-row-preserved
loop-row-preserved g c = record {
  written = c.loop-row.invariant.written ++ scrub_line c.args.settings.now c.in-Some.row.now;
  whole = c.loop-row.invariant.whole ∙ row_more c.args.settings.now c.loop-row.invariant.written c.loop-row.row-iterator c.next.new.self c.in-Some.row.now c.in-Some.ensures.steps;
  puts = puts_then _ _ _ _ _ _ _ _ c.loop-row.invariant.puts (puts_line c.args.settings.now c.in-Some.row.now _ _ _ _ _ _ c.put_front.ensures c.put_end.ensures);
}
