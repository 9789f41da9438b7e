use Rattle.std.proofs.Common.{◌<◌, ◌∷◌, length, get_or, ap, sym, subst, ◌∙◌, arith}
use Rattle.coap_observe.specs.Rings.{RingValue}
use Rattle.coap_observe.specs.Chains.{ChainsValue, chain_at}
use Rattle.coap_observe.proofs.Pairing.{length_chains, ring_placed}
use Rattle.coap_observe.proofs.chains.Chains.behind.Goals as goal

pub behind-requires : goal.behind-requires
behind-requires c =
    let chains = c.self.inside.chains.items in
    let rings = c.self.inside.keys.rings in
    let less = subst (λ (v : ChainsValue). c.args.at < length v.chains) (sym c.self.view_is) c.requires.at in
    let long = length_chains chains rings c.self.invariant.paired in
    let at = ring_placed c.args.at c.self.inside.chains.items c.self.inside.keys.rings c.self.invariant.paired in
    record {
      at = omega (arith, less, long);
      there = subst (λ (r : RingValue). c.args.place < length r.slots) (sym at) (subst (λ (v : ChainsValue). c.args.place < length (chain_at c.args.at v.chains).keys) (sym c.self.view_is) c.requires.there);
      before =
          c.requires.before
          ∙ ap (λ (v : ChainsValue). get_or ((chain_at c.args.at v.chains).start ∷ (chain_at c.args.at v.chains).keys) c.args.place 0) (sym c.self.view_is)
          ∙ ap (λ (r : RingValue). get_or (r.start ∷ r.slots) c.args.place 0) (sym at);
    }

pub returns : goal.returns
returns c =
    c.behind.ensures
    ∙ ap (λ (r : RingValue). get_or r.slots c.args.place 0) (ring_placed c.args.at c.self.inside.chains.items c.self.inside.keys.rings c.self.invariant.paired)
    ∙ ap (λ (v : ChainsValue). get_or (chain_at c.args.at v.chains).keys c.args.place 0) c.self.view_is
