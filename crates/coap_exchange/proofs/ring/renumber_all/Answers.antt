use Rattle.std.proofs.Common.{set, ap, sym, ◌∙◌}
use Rattle.std.proofs.lemmas.List.Edits.{map_over_more}
use Rattle.coap_exchange.specs.Rings.{renumbered}
use Rattle.coap_exchange.proofs.ring.renumber_all.Goals as goal

pub loop-message-preserved : goal.loop-message-preserved
loop-message-preserved c =
    ap (set c.loop-message.messages c.loop-message.message-index) (c.renumber_one.ensures ∙ ap (renumbered c.args.keep.now) (sym c.message-item.is))
    ∙ map_over_more (renumbered c.args.keep.now) _ _ _ _ c.loop-message-test.true c.loop-message.invariant c.message-item.is
