use Rattle.std.proofs.Common.{◌∙◌, ℕ, List, ap, subst}
use Rattle.dots_host.specs.Acts.{event_of}
use Rattle.dots_host.specs.Sending.{Handed}
use Rattle.ask_agent.specs.Asking.{AskState, ReceivesEvent, to_server}
use Rattle.ask_agent.proofs.Turns.{takes_joined}
use Rattle.ask_agent.proofs.asker.Asker.take.Goals as goal

pub returns-clause-takes : goal.returns-clause-takes
returns-clause-takes g c =
    let receives = subst (λ (s : AskState). (answers : List (List ℕ)) × ReceivesEvent s (event_of c.args.got.now.what c.args.room.now) answers c.receive.new.self
    × Handed (g.W.Wire.acts c.args.wire.now) (g.W.Wire.moment c.args.wire.now) (g.W.Wire.acts c.receive.new.wire) (g.W.Wire.moment c.receive.new.wire) (to_server s.server answers))
    c.pass.ensures c.receive.ensures.hears in
    takes_joined c.args.self.now c.receive.new.self c.ask_due.new.self c.hand_out.new.self (event_of c.args.got.now.what c.args.room.now) c.args.got.now.at _ _ _ _ _ _ receives
    (c.receive.ensures.server ∙ ap (λ (s : AskState). s.server) c.pass.ensures) c.ask_due.ensures.asks c.ask_due.ensures.server c.hand_out.ensures.hands
