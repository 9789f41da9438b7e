use Rattle.dots_server.proofs.Puts.{puts_then, puts_same}
use Rattle.dots_server.proofs.ReportTexts.{acl_in_parts}
use Rattle.dots_server.proofs.report.lists.put_line.Goals as goal

pub returns : goal.returns
returns g c =
    puts_same _ _ _ _ _ _ (acl_in_parts c.args.settings.now c.args.row.now c.args.ace.now c.args.destination.now)
    (puts_then _ _ _ _ _ _ _ _ (puts_then _ _ _ _ _ _ _ _ (puts_then _ _ _ _ _ _ _ _ c.put_front.ensures c.put_name.ensures) c.put_aims.ensures) c.put_end.ensures)
