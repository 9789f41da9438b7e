use Rattle.std.proofs.Common.{◌≡◌, ◌≤◌, ◌+◌, ◌*◌}
use Rattle.dots_load.specs.Draws.{number_after}
use Rattle.world_play.specs.Playing.{IsSound}
use Rattle.world_play.specs.Drawing.{time_after}
use Rattle.world_play.specs.Running.{PlaysDrawn}
use Rattle.world_play.proofs.run_playing.play_drawn.Given as goal

abbrev pub invariant-loop-k : goal.invariant-loop-k
invariant-loop-k l = record {
  sound : IsSound l.played;
  number : l.draws.number ≡ number_after l.seed (3 * l._k);
  time : l.time ≡ time_after l.seed l._k;
  early : l.time ≤ 1000 + 30 * l._k;
  plays : PlaysDrawn l.seed l._k l.played;
}
