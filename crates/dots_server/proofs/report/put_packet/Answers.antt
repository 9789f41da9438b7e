use Rattle.std.proofs.Common.{ap, ◌∙◌}
use Rattle.dots_machine.specs.Report.{packet_line}
use Rattle.dots_server.proofs.Puts.{puts_then, puts_same}
use Rattle.dots_server.proofs.ReportTexts.{packet_in_parts}
use Rattle.dots_server.proofs.report.put_packet.Goals as goal

pub returns : goal.returns
returns g c =
    puts_same _ _ _ _ _ _ (packet_in_parts c.args.number _ ∙ ap (packet_line c.args.number) c.fate-fate.ensures)
    (puts_then _ _ _ _ _ _ _ _ (puts_then _ _ _ _ _ _ _ _ c.put_number.ensures c.put_fate.ensures) c.put.ensures)
