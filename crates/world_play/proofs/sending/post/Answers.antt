use Rattle.std.proofs.Common.{◌++◌, ◌∙◌, ap, append_assoc, append-nil, arith}
use Rattle.std.specs.Prelude.{flat_map}
use Rattle.std.proofs.lemmas.List.{take_all}
use Rattle.world_play.specs.Packets.{packets_in}
use Rattle.std.proofs.lemmas.Grind.{take_at_read, flat_map-append}
use Rattle.world_play.proofs.Routes.{post_routed}
use Rattle.world_play.proofs.sending.post.Goals as goal

pub loop-call-preserved : goal.loop-call-preserved
loop-call-preserved c = record { posted = grind (arith, take_at_read, flat_map-append, append_assoc, append-nil) }

pub returns-clause-routed : goal.returns-clause-routed
returns-clause-routed c = post_routed c.args.parties.now c.args.source c.args.calls.now c.args.packets.now.items c.loop-call.packets.items c.requires.inner
    (c.loop-call.invariant.posted ∙ ap (λ calls. c.args.packets.now.items ++ flat_map (packets_in c.args.parties.now c.args.source) calls) (take_all c.loop-call.call-index c.args.calls.now (omega (arith, c.loop-call-test.false))))
