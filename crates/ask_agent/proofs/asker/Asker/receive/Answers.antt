use Rattle.std.proofs.Common.{[], ap}
use Rattle.dots_host.proofs.Sends.{handed_none}
use Rattle.ask_agent.specs.Asking.{AskState}
use Rattle.ask_agent.proofs.Turns.{receives_other}
use Rattle.ask_agent.proofs.asker.Asker.receive.Goals as goal

pub returns-else-from-self-clause-hears : goal.returns-else-from-self-clause-hears
returns-else-from-self-clause-hears g c = (
  [],
  receives_other c.args.self.now c.args.what c.args.room.now c.in-Datagram.from c.in-Datagram.len c.self.inside.server c.in-Datagram.is (ap (λ (s : AskState). s.server) c.self.view_is)
      c.if-from-self.false,
  handed_none _ _,
)
