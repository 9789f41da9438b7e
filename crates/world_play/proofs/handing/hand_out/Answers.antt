use Rattle.std.proofs.Common.{◌∙◌, sym}
use Rattle.world_play.proofs.Draining.{drained_more, drained_all, drained_less}
use Rattle.world_play.proofs.handing.hand_out.Goals as goal

pub loop-smaller : goal.loop-smaller
loop-smaller c = drained_less c.args.now c.loop.client c.hand_next.new.client (sym c.in_ok-hand_next.ensures.any ∙ c.if-branch.true) c.hand_next.ensures.after

pub loop-preserved : goal.loop-preserved
loop-preserved c = record {
  drained = drained_more c.args.now c.args.place c.args.behind c.args.client.now c.loop.client c.hand_next.new.client c.args.packets.now.items c.loop.packets.items c.hand_next.new.packets.items c.loop.invariant.drained
      (sym c.in_ok-hand_next.ensures.any ∙ c.if-branch.true) c.hand_next.ensures.after c.in_ok-hand_next.ensures.posted;
}

pub returns : goal.returns
returns c =
    drained_all c.args.now c.args.place c.args.behind c.args.client.now c.loop.client c.hand_next.new.client c.args.packets.now.items c.loop.packets.items c.hand_next.new.packets.items c.loop.invariant.drained
    (sym c.in_ok-hand_next.ensures.any ∙ c.if-branch.false) c.hand_next.ensures.after c.in_ok-hand_next.ensures.posted
