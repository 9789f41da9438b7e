use Rattle.std.proofs.Common.{◌<◌, length, ap, sym, subst, ◌∙◌, arith}
use Rattle.coap_observe.specs.Rings.{RingValue}
use Rattle.coap_observe.specs.Chains.{ChainsValue, chain_at}
use Rattle.coap_observe.proofs.Pairing.{length_chains, ring_placed}
use Rattle.coap_observe.proofs.chains.Chains.len.Goals as goal

pub len-requires : goal.len-requires
len-requires c =
    let chains = c.self.inside.chains.items in
    let rings = c.self.inside.keys.rings in
    let less = subst (λ (v : ChainsValue). c.args.at < length v.chains) (sym c.self.view_is) c.requires in
    let long = length_chains chains rings c.self.invariant.paired in
    omega (arith, less, long)

pub returns : goal.returns
returns c =
    c.len.ensures
    ∙ ap (λ (r : RingValue). length r.slots) (ring_placed c.args.at c.self.inside.chains.items c.self.inside.keys.rings c.self.invariant.paired)
    ∙ ap (λ (v : ChainsValue). length (chain_at c.args.at v.chains).keys) c.self.view_is
