use Rattle.std.proofs.Common.{[], refl, sym, subst}
use Rattle.dots_host.specs.Acts.{event_of}
use Rattle.dots_host.specs.Runs.{Gives}
use Rattle.dots_host.proofs.RunLemmas.{added_none}
use Rattle.dots_host.proofs.Sends.{handed_gives}
use Rattle.ask_agent.specs.Asking.{step}
use Rattle.ask_agent.specs.Unmoved.{step_ends, step_fails}
use Rattle.ask_agent.proofs.Turns.{taken_turns}
use Rattle.ask_agent.proofs.asker.AskerAgent.turn.Goals as goal

pub returns-in-End-clause-step : goal.returns-in-End-clause-step
returns-in-End-clause-step g c = (
  [],
  subst (λ w. step c.args.self.now (event_of w c.args.room.now) c.args.got.now.at [] c.args.self.now) (sym c.in-End.is) (step_ends c.args.self.now c.args.got.now.at),
  added_none _ (Gives (g.W.Wire.moment c.args.wire.now) []) tt,
)

pub returns-in-Failed-clause-step : goal.returns-in-Failed-clause-step
returns-in-Failed-clause-step g c = (
  [],
  subst (λ w. step c.args.self.now (event_of w c.args.room.now) c.args.got.now.at [] c.args.self.now) (sym c.in-Failed.is) (step_fails c.args.self.now c.args.got.now.at),
  added_none _ (Gives (g.W.Wire.moment c.args.wire.now) []) tt,
)

pub returns-in_default-clause-step : goal.returns-in_default-clause-step
returns-in_default-clause-step g c =
    let (outs, takes, handed) = c.take.ensures.takes in (
      outs,
      (outs, refl, taken_turns c.args.self.now c.take.new.self c.args.got.now.what c.args.room.now c.args.got.now.at outs c.in_default.not-End c.in_default.not-Failed takes),
      handed_gives _ _ _ _ outs handed,
    )
