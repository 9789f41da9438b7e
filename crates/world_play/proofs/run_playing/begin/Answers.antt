use Rattle.std.proofs.Common.{◌≡◌, []}
use Rattle.dots_machine.specs.Machine.{begun_from}
use Rattle.dots_world.specs.Worlds.{begun}
use Rattle.world_play.specs.Parties.{plan_of, plan_with}
use Rattle.world_play.specs.Playing.{PlayedValue, PlaysAs}
use Rattle.world_play.specs.Running.{PlaysDrawn}
use Rattle.world_play.proofs.RunLeading.{of_both, plays_none}
use Rattle.world_play.proofs.run_playing.begin.Goals as goal

pub returns-clause-plays : goal.returns-clause-plays
returns-clause-plays c = λ seed.
    let plan = c.in_ok-plan.plan in
    of_both c.begin.result (λ (played : PlayedValue). plan_with plan.settings played.parties ≡ plan_of plan)
    (λ (played : PlayedValue). PlaysAs plan.settings played (begun (plan_of plan) (begun_from plan.settings []))) (λ (played : PlayedValue). PlaysDrawn seed 0 played)
    (λ played. plays_none seed plan played c.in_ok-plan.ensures.generated) c.begin.ensures.plan c.begin.ensures.plays
