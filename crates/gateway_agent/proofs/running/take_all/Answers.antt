use Rattle.gateway_agent.proofs.running.take_all.Goals as goal

pub returns-clause-came : goal.returns-clause-came
returns-clause-came g c = c.take_events.ensures.came
