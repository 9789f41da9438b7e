use Rattle.coap_observe.specs.Rings.{counted}
use Rattle.coap_observe.proofs.Circling.{ring_set}
use Rattle.std.proofs.Common.{refl}
use Rattle.coap_observe.proofs.rings.count_more.Goals as goal

pub returns : goal.returns
returns c = ring_set counted c.args.rings.now.items c.args.at c.index_mut.result.now _ c.requires.at c.index_mut.ensures.value refl
