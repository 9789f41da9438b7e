use Rattle.std.proofs.Common.{◌∙◌, sym, ap}
use Rattle.ask_agent.specs.Asking.{AskState}
use Rattle.ask_agent.proofs.Asks.{asks_more, asks_all}
use Rattle.ask_agent.proofs.asker.Asker.ask_due.Goals as goal

pub loop-self-preserved : goal.loop-self-preserved
loop-self-preserved c = record {
  goes = asks_more c.args.self.now c.loop-self.self c.ask_next.new.self c.loop-self.invariant.goes c.ask_next.ensures;
  server = ap (λ (s : AskState). s.server) c.ask_next.ensures.leaves ∙ c.loop-self.invariant.server;
}

pub returns-clause-asks : goal.returns-clause-asks
returns-clause-asks c = asks_all c.args.self.now c.loop-self.self c.loop-self.invariant.goes (sym c.is_due.ensures ∙ c.loop-self-test.false)
