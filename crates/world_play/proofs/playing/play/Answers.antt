use Rattle.std.proofs.Common.{subst, []}
use Rattle.dots_machine.specs.Machine.{State, Step, begun_from}
use Rattle.dots_world.specs.Worlds.{World, begun}
use Rattle.dots_world.specs.OneWorld.{RunsWell}
use Rattle.world_play.specs.Parties.{plan_of}
use Rattle.world_play.specs.Playing.{PlayedValue, PlaysAs, Goes, RunsSo}
use Rattle.world_play.proofs.Leading.{runs_are}
use Rattle.world_play.proofs.playing.play.Goals as goal
use Rattle.dots_settings.specs.Settings.{SettingsValue}
use Rattle.std.proofs.lemmas.Result.{IfOk-weaker}

pub returns : goal.returns
returns c = record {
  runs = IfOk-weaker c.run.result
      (λ played. (settings : SettingsValue) → Goes settings (RunsSo settings c.in_ok-played.played.parties c.args.events.now) c.in_ok-played.played played)
      (λ played. (world : World State) × RunsWell (Step c.args.plan.settings) (plan_of c.args.plan) (begun (plan_of c.args.plan) (begun_from c.args.plan.settings [])) c.args.events.now world
      × PlaysAs c.args.plan.settings played world)
      (λ played so.
      let gone = (so c.args.plan.settings).goes (begun (plan_of c.args.plan) (begun_from c.args.plan.settings [])) c.in_ok-played.ensures.plays in (
        gone.0,
        subst (λ plan. RunsWell (Step c.args.plan.settings) plan (begun (plan_of c.args.plan) (begun_from c.args.plan.settings [])) c.args.events.now gone.0) c.in_ok-played.ensures.plan
            (runs_are c.args.plan.settings c.in_ok-played.played.parties c.args.events.now (begun (plan_of c.args.plan) (begun_from c.args.plan.settings [])) gone.0 gone.1),
        gone.2,
      ))
      c.run.ensures.runs;
}
