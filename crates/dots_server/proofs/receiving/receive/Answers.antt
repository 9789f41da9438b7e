use Rattle.std.proofs.Common.{ap}
use Rattle.dots_machine.specs.declared.received.Received.TheVariants as received
use Rattle.dots_machine.specs.Requests.{unread}
use Rattle.dots_server.proofs.receiving.receive.Goals as goal

pub returns-in-Err-clause-received : goal.returns-in-Err-clause-received
returns-in-Err-clause-received c = unread _ c.in-Err.ensures.breaks (ap received.Unread c.dismissed_unread.ensures)
