use Rattle.std.proofs.Common.{◌≡◌, map, ap, ◌∙◌}
use Rattle.coap_exchange.specs.Rings.{pair_of}
use Rattle.coap_exchange.proofs.HistoryRings.{pairs_moved}
use Rattle.coap_exchange.proofs.remembered.Remembered.moved.Goals as goal

pub invariant_of-self : goal.invariant_of-self
invariant_of-self c =
    ap (map pair_of) c.renumber_rings.ensures
    ∙ pairs_moved c.args.keep.now c.self.inside.rings.items
    ∙ c.self.invariant
