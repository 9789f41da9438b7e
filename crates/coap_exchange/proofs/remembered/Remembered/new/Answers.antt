use Rattle.std.proofs.Common.{◌≡◌, map, ap, ◌∙◌}
use Rattle.coap_exchange.specs.Rings.{pair_of}
use Rattle.coap_exchange.proofs.Finding.{pairs_empty}
use Rattle.coap_exchange.proofs.remembered.Remembered.new.Goals as goal

pub invariant_of-result : goal.invariant_of-result
invariant_of-result c = ap (map pair_of) c.in_ok-rings.ensures ∙ pairs_empty _ _ ∙ c.pairs-2.ensures
