use Rattle.std.proofs.Common.{◌∙◌, ◌+◌, ℕ, refl, sym, ap, arith}
use Rattle.dots_load.specs.Draws.{next}
use Rattle.world_play.proofs.Events.{three_further, drawn_is, time_more, next_time}
use Rattle.world_play.proofs.RunLeading.{plays_more}
use Rattle.world_play.proofs.run_playing.play_drawn.Goals as goal

pub loop-k-init : goal.loop-k-init
loop-k-init c = record {
  sound = c.in_ok-played.ensures.sound;
  number = c.new-draws.ensures;
  time = refl;
  early = omega arith;
  plays = c.in_ok-played.ensures.plays c.args.seed;
}

pub loop-k-preserved : goal.loop-k-preserved
loop-k-preserved c =
    let seed = c.args.seed in
    let k = c.loop-k._k in
    let was = c.loop-k.invariant in
    let drawn = drawn_is c.next-drawn.result seed k c.loop-k.draws.number was.number c.next-drawn.ensures.first c.next-drawn.ensures.second c.next-drawn.ensures.third in
    let later = time_more seed k c.loop-k.time c.raise-time.result c.next-drawn.result was.time c.raise-time.ensures.raise drawn in
    record {
      sound = c.in-Ok.ensures.sound;
      number = c.next-drawn.ensures.number ∙ ap (λ (n : ℕ). next (next (next n))) was.number ∙ sym (three_further seed k);
      time = next_time seed k (c.loop-k.time + c.raise-time.result) later;
      early = omega (arith, was.early, c.raise-time.ensures.small);
      plays = plays_more seed k c.next-drawn.result (c.loop-k.time + c.raise-time.result) c.loop-k.played c.in-Ok.next was.plays drawn later c.in-Ok.ensures.parties c.in-Ok.ensures.happens;
    }
