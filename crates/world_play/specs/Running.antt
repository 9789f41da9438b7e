-- A run of a generated world.
use Rattle.std.specs.Prelude.{◌≡◌, ℕ, List, [], length}
use Rattle.dots_machine.specs.Machine.{State, begun_from, Step}
use Rattle.dots_world.specs.Plans.{Plan}
use Rattle.dots_world.specs.Worlds.{World, begun}
use Rattle.dots_world.specs.OneWorld.{RunsChosenWell}
use Rattle.dots_world.specs.declared.event.WorldEvent.{WorldEvent}
use Rattle.world_play.specs.Parties.{plan_with}
use Rattle.world_play.specs.Playing.{PlayedValue, PlaysAs}
use Rattle.world_play.specs.Plans.{IsGenerated}
use Rattle.world_play.specs.Drawing.{event_at}

-- What comes in a world as event k of a seed: which packet comes is drawn among those that were sent before.
abbrev pub drawn_in : {S : Type 0} → ℕ → ℕ → World S → WorldEvent
drawn_in seed k world = event_at seed k (length world.packets)

-- A run from the beginning, with the machine as the server, whose events are those of a seed, and in which nobody lacks memory.
unfoldable pub RunsFrom : ℕ → Plan → List WorldEvent → World State → Type 0
RunsFrom seed plan events world = RunsChosenWell (Step plan.settings) (drawn_in seed) plan 0 (begun plan (begun_from plan.settings [])) events world

-- What was played plays a world to which the first events of a seed lead, so many.
pub record PlaysDrawn (seed count : ℕ) (played : PlayedValue) : Type 0 where
  pub plan : Plan
  pub is_plan : IsGenerated plan
  pub parties : plan_with plan.settings played.parties ≡ plan
  pub events : List WorldEvent
  pub count_is : length events ≡ count
  pub world : World State
  pub runs : RunsFrom seed plan events world
  pub plays : PlaysAs plan.settings played world
