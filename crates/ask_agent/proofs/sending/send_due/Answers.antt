use Rattle.std.proofs.Common.{◌∙◌, sym}
use Rattle.ask_agent.proofs.Draining.{drained_more, drained_all, drained_less}
use Rattle.ask_agent.proofs.sending.send_due.Goals as goal

pub loop-smaller : goal.loop-smaller
loop-smaller g c = drained_less c.args.now c.loop.core c.send_next.new.core (sym c.send_next.ensures.any ∙ c.loop-test.true) c.send_next.ensures.after

pub loop-preserved : goal.loop-preserved
loop-preserved g c = record {
  drained = drained_more c.args.now c.args.server c.args.core.now c.loop.core c.send_next.new.core _ _ _ _ _ _ c.loop.invariant.drained (sym c.send_next.ensures.any ∙ c.loop-test.true)
      c.send_next.ensures.after c.send_next.ensures.sends;
  faults = c.send_next.ensures.faults ∙ c.loop.invariant.faults;
  leads = g.met.W.Wire.leads_then _ _ _ c.loop.invariant.leads c.send_next.ensures.leads;
}

pub returns-clause-sends : goal.returns-clause-sends
returns-clause-sends g c =
    drained_all c.args.now c.args.server c.args.core.now c.loop.core c.send_next.new.core _ _ _ _ _ _ c.loop.invariant.drained (sym c.send_next.ensures.any ∙ c.loop-test.false)
    c.send_next.ensures.after c.send_next.ensures.sends
