use Rattle.std.proofs.Common.{set, ap, sym, ◌∙◌}
use Rattle.std.proofs.lemmas.List.Edits.{map_over_more}
use Rattle.coap_exchange.specs.Rings.{ring_renumbered}
use Rattle.coap_exchange.proofs.remembered.renumber_all.Goals as goal

pub loop-ring-preserved : goal.loop-ring-preserved
loop-ring-preserved c =
    ap (set c.loop-ring.rings c.loop-ring.ring-index) (c.renumber.ensures ∙ ap (ring_renumbered c.args.keep.now) (sym c.ring-item.is))
    ∙ map_over_more (ring_renumbered c.args.keep.now) _ _ _ _ c.loop-ring-test.true c.loop-ring.invariant c.ring-item.is
