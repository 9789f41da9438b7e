use Rattle.std.proofs.Common.{◌<◌, length, ap, sym, subst, ◌∙◌, arith}
use Rattle.coap_observe.specs.Rings.{RingValue}
use Rattle.coap_observe.specs.Chains.{ChainsValue, chain_at}
use Rattle.coap_observe.proofs.Pairing.{length_chains, ring_placed}
use Rattle.coap_observe.proofs.chains.Chains.start.Goals as goal

pub start-requires : goal.start-requires
start-requires c =
    let chains = c.self.inside.chains.items in
    let rings = c.self.inside.keys.rings in
    let less = subst (λ (v : ChainsValue). c.args.at < length v.chains) (sym c.self.view_is) c.requires in
    let long = length_chains chains rings c.self.invariant.paired in
    omega (arith, less, long)

pub returns : goal.returns
returns c =
    c.start.ensures
    ∙ ap (λ (r : RingValue). r.start) (ring_placed c.args.at c.self.inside.chains.items c.self.inside.keys.rings c.self.invariant.paired)
    ∙ ap (λ (v : ChainsValue). (chain_at c.args.at v.chains).start) c.self.view_is
