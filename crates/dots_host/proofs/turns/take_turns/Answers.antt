use Rattle.std.proofs.Common.{◌≡◌, ◌^◌, ◌∙◌, [], refl, sym, subst, arith}
use Rattle.dots_host.specs.Acts.{event_of, OnFailed}
use Rattle.dots_host.specs.Causes.{Rose}
use Rattle.dots_host.specs.Runs.{EndsBy}
use Rattle.dots_host.proofs.RunLemmas.{added_none, added_weaker}
use Rattle.dots_host.specs.Stopping.{until}
use Rattle.dots_host.proofs.Turning.{Goes, turned, further, ended, no_end}
use Rattle.dots_host.proofs.turns.take_turns.Goals as goal

pub loop-turn-init : goal.loop-turn-init
loop-turn-init g c = record {
  leads = g.met.W.Wire.leads_same c.args.wire.now;
  later = omega arith;
  going = c.requires.begins;
  came = added_none _ (Goes (until g.A.Agent.over g.A.Agent.step) c.args.agent.now 0 c.args.agent.now) (record { run = ([], refl); goes = tt; events = refl });
}

pub loop-turn-preserved : goal.loop-turn-preserved
loop-turn-preserved g c =
    let step = until g.A.Agent.over g.A.Agent.step in
    let (outs, made, gives) = c.turn.ensures.step in
    let goes = no_end c.next-got.result.what c.next-got.new.into c.next-got.result.at c.in_default.not-End c.in_default.not-Failed in
    record {
      leads = g.met.W.Wire.leads_then _ _ _ (g.met.W.Wire.leads_then _ _ _ c.loop-turn.invariant.leads c.next-got.ensures.leads) c.turn.ensures.leads;
      later = omega (arith, c.next-got.ensures.later, c.turn.ensures.faults, c.loop-turn.invariant.later);
      going = sym c.is_over.ensures ∙ c.if-is_over.false;
      came = further step c.args.agent.now c.loop-turn.agent c.turn.new.self c.loop-turn._turn _ _ _ c.loop-turn.invariant.came
          (turned step c.loop-turn.agent c.turn.new.self (event_of c.next-got.result.what c.next-got.new.into) c.next-got.result.at outs _ _ _ _ _ _ goes (c.loop-turn.invariant.going, made)
          c.next-got.ensures.acts gives);
    }

pub returns-in-End-clause-came : goal.returns-in-End-clause-came
returns-in-End-clause-came g c =
    let step = until g.A.Agent.over g.A.Agent.step in
    added_weaker _ _ _ _
    (ended step c.args.agent.now c.loop-turn.agent c.loop-turn._turn (event_of c.next-got.result.what c.next-got.new.into) c.next-got.result.at _ _ _ _ _
    (subst (λ what. step c.loop-turn.agent (event_of what c.next-got.new.into) c.next-got.result.at [] c.loop-turn.agent) (sym c.in-End.is)
    (c.loop-turn.invariant.going, g.met.A.Agent.ends c.loop-turn.agent c.next-got.result.at))
    c.loop-turn.invariant.came c.next-got.ensures.acts)
    (λ more e. (e.run, subst (λ what. EndsBy (event_of what c.next-got.new.into) more) c.in-End.is e.last))

pub returns-in-Failed-clause-came : goal.returns-in-Failed-clause-came
returns-in-Failed-clause-came g c =
    let step = until g.A.Agent.over g.A.Agent.step in
    added_weaker _ _ _ _
    (ended step c.args.agent.now c.loop-turn.agent c.loop-turn._turn (event_of c.next-got.result.what c.next-got.new.into) c.next-got.result.at _ _ _ _ _
    (subst (λ what. step c.loop-turn.agent (event_of what c.next-got.new.into) c.next-got.result.at [] c.loop-turn.agent) (sym c.in-Failed.is)
    (c.loop-turn.invariant.going, g.met.A.Agent.fails c.loop-turn.agent c.next-got.result.at))
    c.loop-turn.invariant.came c.next-got.ensures.acts)
    (λ more e. (e.run, subst (λ what. EndsBy (event_of what c.next-got.new.into) more) c.in-Failed.is e.last))

pub returns-in-Failed-clause-failed : goal.returns-in-Failed-clause-failed
returns-in-Failed-clause-failed g c = λ failed.
    let rose = subst (λ what. OnFailed what (Rose (g.W.Wire.faults c.loop-turn.wire) (g.W.Wire.faults c.next-got.new.self))) c.in-Failed.is c.next-got.ensures.cause in
    omega (arith, rose, c.loop-turn.invariant.later)

pub returns-then-is_over : goal.returns-then-is_over
returns-then-is_over g c =
    let step = until g.A.Agent.over g.A.Agent.step in
    let (outs, made, gives) = c.turn.ensures.step in
    let goes = no_end c.next-got.result.what c.next-got.new.into c.next-got.result.at c.in_default.not-End c.in_default.not-Failed in
    record {
      came = added_weaker _ _ _ _
          (further step c.args.agent.now c.loop-turn.agent c.turn.new.self c.loop-turn._turn _ _ _ c.loop-turn.invariant.came
          (turned step c.loop-turn.agent c.turn.new.self (event_of c.next-got.result.what c.next-got.new.into) c.next-got.result.at outs _ _ _ _ _ _ goes (c.loop-turn.invariant.going, made)
          c.next-got.ensures.acts gives))
          (λ more ran. (ran.run, ran.goes));
      over = sym c.is_over.ensures ∙ c.if-is_over.true;
      failed = tt;
      leads = g.met.W.Wire.leads_then _ _ _ (g.met.W.Wire.leads_then _ _ _ c.loop-turn.invariant.leads c.next-got.ensures.leads) c.turn.ensures.leads;
      later = omega (arith, c.next-got.ensures.later, c.turn.ensures.faults, c.loop-turn.invariant.later);
    }

pub returns-clause-came : goal.returns-clause-came
returns-clause-came g c =
    let all : c.loop-turn._turn ≡ 2 ^ 40 = omega (arith, c.loop-turn-test.false, c.loop-turn.auto._turn-end) in
    added_weaker _ _ _ _ c.loop-turn.invariant.came (λ more ran. (ran.run, (ran.goes, ran.events ∙ all)))
