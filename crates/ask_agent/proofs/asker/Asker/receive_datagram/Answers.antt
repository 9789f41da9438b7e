use Rattle.std.proofs.Common.{Some, ap, subst}
use Rattle.dots_client.specs.declared.heard.Heard.TheVariants as heard
use Rattle.dots_client.specs.Receiving.{Receives}
use Rattle.ask_agent.specs.Asking.{AskState}
use Rattle.ask_agent.proofs.Turns.{received_beat, received_refused, received_silent}
use Rattle.ask_agent.proofs.asker.Asker.receive_datagram.Goals as goal

pub returns-in-Beat-clause-hears : goal.returns-in-Beat-clause-hears
returns-in-Beat-clause-hears g c =
    let seen = c.self.view_is in
    received_beat c.args.self.now _ c.args.bytes.now c.in-Beat.answer c.bytes.result.now c.self.inside.server c.got.new.self _ _ _ _
    (subst (λ (s : AskState). Receives s.client c.args.bytes.now s.time (heard.Beat c.in-Beat.answer) c.got.new.self) seen c.in-Beat.ensures)
    (ap (λ (s : AskState). record s { client = c.got.new.self }) seen)
    (ap (λ (s : AskState). s.server) seen)
    c.bytes.ensures.value c.send_to.ensures.handed

pub returns-in-Refused-clause-hears : goal.returns-in-Refused-clause-hears
returns-in-Refused-clause-hears g c =
    let seen = c.self.view_is in
    received_refused c.args.self.now _ c.args.bytes.now c.in-Refused.mid c.in-Refused.code c.got.new.self _ _
    (subst (λ (s : AskState). Receives s.client c.args.bytes.now s.time (heard.Refused c.in-Refused.mid c.in-Refused.code) c.got.new.self) seen c.in-Refused.ensures)
    (ap (λ (s : AskState). record s { client = c.got.new.self; refused = Some (record { mid = c.in-Refused.mid; code = c.in-Refused.code }) }) seen)

pub returns-in_default-clause-hears : goal.returns-in_default-clause-hears
returns-in_default-clause-hears g c =
    let seen = c.self.view_is in
    received_silent c.args.self.now _ c.args.bytes.now c.got.result c.got.new.self _ _ c.in_default.not-Beat c.in_default.not-Refused
    (subst (λ (s : AskState). Receives s.client c.args.bytes.now s.time c.got.result c.got.new.self) seen c.got.ensures)
    (ap (λ (s : AskState). record s { client = c.got.new.self }) seen)
