use Rattle.std.proofs.Common.{ap, subst}
use Rattle.dots_host.specs.Sending.{Handed}
use Rattle.ask_agent.specs.Asking.{AskState, Drains, to_server}
use Rattle.ask_agent.proofs.asker.Asker.hand_out.Goals as goal

pub returns-clause-hands : goal.returns-clause-hands
returns-clause-hands g c =
    let seen = c.self.view_is in
    let (messages, drains, handed) = c.send_due.ensures.sends in (
      messages,
      (
        c.send_due.new.core,
        subst (λ (s : AskState). Drains s.time s.client messages c.send_due.new.core) seen drains,
        ap (λ (s : AskState). record s { client = c.send_due.new.core }) seen,
      ),
      subst (λ (s : AskState). Handed (g.W.Wire.acts c.args.wire.now) (g.W.Wire.moment c.args.wire.now) (g.W.Wire.acts c.send_due.new.wire) (g.W.Wire.moment c.send_due.new.wire)
          (to_server s.server messages)) seen handed,
    )
