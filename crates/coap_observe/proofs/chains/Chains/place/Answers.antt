use Rattle.std.proofs.Common.{ap, ◌∙◌}
use Rattle.std.specs.Prelude.{◌==◌, position}
use Rattle.std.specs.List.{position_from}
use Rattle.coap_observe.specs.Chains.{ChainsValue, is_chain_of, chains_of}
use Rattle.coap_observe.proofs.Firsts.{chain_place}
use Rattle.coap_observe.proofs.Pairing.{peers_are}
use Rattle.coap_observe.proofs.chains.Chains.place.Goals as goal

pub returns : goal.returns
returns c =
    let chains = c.self.inside.chains.items in
    let rings = c.self.inside.keys.rings in
    c.copied.ensures
    ∙ c.get.ensures.value
    ∙ c.self.invariant.firsts c.args.peer
    ∙ ap (position_from (λ other. c.args.peer == other) 0) (peers_are chains rings c.self.invariant.paired)
    ∙ chain_place c.args.peer (chains_of chains rings)
    ∙ ap (λ (v : ChainsValue). position (is_chain_of c.args.peer) v.chains) c.self.view_is
