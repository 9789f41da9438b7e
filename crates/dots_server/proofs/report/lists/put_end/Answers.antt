use Rattle.dots_server.proofs.Puts.{puts_then}
use Rattle.dots_server.proofs.report.lists.put_end.Goals as goal

pub returns : goal.returns
returns g c =
    puts_then _ _ _ _ _ _ _ _
    (puts_then _ _ _ _ _ _ _ _
    (puts_then _ _ _ _ _ _ _ _ (puts_then _ _ _ _ _ _ _ _ (puts_then _ _ _ _ _ _ _ _ c.put_asked_protocol.ensures c.put.ensures) c.put_test.ensures) c.put-2.ensures)
    c.put_test-2.ensures)
    c.put-3.ensures
