use Rattle.std.proofs.Common.{◌∙◌, arith, refl, subst, sym}
use Rattle.std.specs.List.{range_with_len}
use Rattle.world_play.specs.Clients.{AllHanded}
use Rattle.world_play.proofs.Handed.{all_more, range_next, there_at}
use Rattle.world_play.proofs.clients.hand_all_out.Goals as goal

pub loop-place-preserved : goal.loop-place-preserved
loop-place-preserved c =
    let inv = c.loop-place.invariant in
    record {
      within = omega (arith, c.loop-place-test.true);
      size = c.hand_out_at.ensures.length ∙ inv.size;
      handed =
          subst (λ places. AllHanded c.args.plan.now c.args.now places c.args.clients.now.items c.args.packets.now.items c.hand_out_at.new.clients.items c.hand_out_at.new.packets.items) (sym (range_next c.loop-place.place))
          (all_more c.args.plan.now c.args.now (range_with_len 0 c.loop-place.place) c.loop-place.place c.index-plan-place.result c.args.clients.now.items c.loop-place.clients.items c.hand_out_at.new.clients.items
          c.args.packets.now.items c.loop-place.packets.items c.hand_out_at.new.packets.items inv.handed
          (there_at c.args.plan.now c.loop-place.place c.index-plan-place.result (omega (arith, c.loop-place-test.true)) c.index-plan-place.is) c.in_ok-hand_out_at.ensures.handed);
    }
