use Rattle.std.proofs.Common.{[]}
use Rattle.dots_machine.specs.Machine.{Step, begun_from}
use Rattle.dots_world.specs.Worlds.{begun}
use Rattle.dots_world.proofs.OneWorld.{runs_so}
use Rattle.world_play.specs.Running.{drawn_in, RunsFrom}
use Rattle.world_play.proofs.RunLeading.{runs_are}
use Rattle.world_play.proofs.laws.generated_runs_are_runs.Goals as goal

pub returns : goal.returns
unfolding RunsFrom
returns c = record {
  well = λ seed plan events world runs. runs_are (Step plan.settings) (drawn_in seed) plan 0 events (begun plan (begun_from plan.settings [])) world runs;
  run = λ seed plan events world runs.
      let start = begun plan (begun_from plan.settings []) in
      runs_so plan (Step plan.settings) start events world (runs_are (Step plan.settings) (drawn_in seed) plan 0 events start world runs);
}
