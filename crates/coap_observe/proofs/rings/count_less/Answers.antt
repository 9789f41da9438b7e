use Rattle.coap_observe.specs.Rings.{discounted}
use Rattle.coap_observe.proofs.Circling.{ring_set}
use Rattle.std.proofs.Common.{refl}
use Rattle.coap_observe.proofs.rings.count_less.Goals as goal

pub returns : goal.returns
returns c = ring_set discounted c.args.rings.now.items c.args.at c.index_mut.result.now _ c.requires.at c.index_mut.ensures.value refl
