use Rattle.std.proofs.Common.{ap, ◌∙◌, sym, ℕ, arith}
use Rattle.dots_load.specs.Draws.{next}
use Rattle.dots_load.proofs.Coming.{four_further, host_step, host_start}
use Rattle.dots_load.proofs.events.push_events.Goals as goal

pub loop-k-init : goal.loop-k-init
loop-k-init c = record {
  number = c.new-draws.ensures;
  host = host_start c.args.host.now c.args.seed c.requires;
}

pub loop-k-preserved : goal.loop-k-preserved
loop-k-preserved c = record {
  number = c.drawn_event.ensures.number ∙ ap (λ (n : ℕ). next (next (next (next n)))) c.loop-k.invariant.number ∙ sym (four_further c.args.seed c.loop-k.k);
  host = host_step c.args.host.now _ _ c.args.seed c.loop-k.k _ _ _ (omega (arith, c.from.ensures)) c.loop-k.invariant.host c.loop-k.invariant.number c.in_ok-event.ensures.event c.in_ok-push.ensures.ok;
}
