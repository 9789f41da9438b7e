use Rattle.std.proofs.Common.{length, ap, sym, ◌∙◌, arith}
use Rattle.std.specs.Prelude.{position}
use Rattle.std.proofs.lemmas.Bool.{false≢true}
use Rattle.coap_observe.specs.Orders.{has_slot}
use Rattle.coap_observe.specs.Rings.{RingsValue, RingValue, one_less}
use Rattle.coap_observe.specs.Chains.{ChainsValue, is_chain_of, keys_in, one_left, chains_of}
use Rattle.coap_observe.proofs.Chaining.{left_at, chain_within, left_nowhere, keys_placed, keys_nowhere}
use Rattle.coap_observe.proofs.Pairing.{length_chains, length_rings, ring_placed, less_placed, nowhere_all}
use Rattle.coap_observe.proofs.chains.Chains.depart.Goals as goal

pub depart-requires-clause-at : goal.depart-requires-clause-at
depart-requires-clause-at c =
    let peer = c.args.peer in
    let chains = c.self.inside.chains.items in
    let rings = c.self.inside.keys.rings in
    let all = chains_of chains rings in
    let found = ap (λ (v : ChainsValue). position (is_chain_of peer) v.chains) c.self.view_is ∙ sym c.in-Some.ensures in
    let within = chain_within peer c.in-Some.at all found in
    let long = length_chains chains rings c.self.invariant.paired in
    omega (arith, within, long)

pub depart-requires-clause-there : goal.depart-requires-clause-there
depart-requires-clause-there c =
    let peer = c.args.peer in
    let chains = c.self.inside.chains.items in
    let rings = c.self.inside.keys.rings in
    let all = chains_of chains rings in
    let found = ap (λ (v : ChainsValue). position (is_chain_of peer) v.chains) c.self.view_is ∙ sym c.in-Some.ensures in
    ap (λ (r : RingValue). has_slot c.args.key r.slots) (ring_placed c.in-Some.at chains rings c.self.invariant.paired)
    ∙ ap (has_slot c.args.key) (keys_placed peer c.in-Some.at all found)
    ∙ ap (λ (v : ChainsValue). has_slot c.args.key (keys_in peer v.chains)) c.self.view_is
    ∙ c.requires

pub invariant_of-self : goal.invariant_of-self
invariant_of-self c = record {
  firsts = c.self.invariant.firsts;
  paired = c.self.invariant.paired ∙ sym (ap (λ (v : RingsValue). length v.rings) c.depart.ensures.others ∙ length_rings (one_less c.args.key) c.in-Some.at c.self.inside.keys.rings);
}

pub returns-in-Some-clause-others : goal.returns-in-Some-clause-others
returns-in-Some-clause-others c =
    let peer = c.args.peer in
    let chains = c.self.inside.chains.items in
    let rings = c.self.inside.keys.rings in
    let all = chains_of chains rings in
    let found = ap (λ (v : ChainsValue). position (is_chain_of peer) v.chains) c.self.view_is ∙ sym c.in-Some.ensures in
    ap (λ (v : RingsValue). record { limit = v.room; chains = chains_of chains v.rings }) c.depart.ensures.others
    ∙ ap (λ xs. record { limit = c.self.inside.keys.room; chains = xs }) (less_placed c.args.key c.in-Some.at chains rings ∙ left_at peer c.args.key c.in-Some.at all found)
    ∙ ap (λ (v : ChainsValue). record { limit = v.limit; chains = one_left peer c.args.key v.chains }) c.self.view_is

pub returns-in-Some-clause-gone : goal.returns-in-Some-clause-gone
returns-in-Some-clause-gone c = nowhere_all c.args.key c.self.inside.chains.items c.depart.new.self.rings c.depart.ensures.outside

pub returns-in-None-clause-others : goal.returns-in-None-clause-others
returns-in-None-clause-others c = ap (λ xs. record { limit = c.args.self.now.limit; chains = xs }) (left_nowhere c.args.peer c.args.key c.args.self.now.chains (sym c.in-None.ensures))

pub returns-in-None-clause-gone : goal.returns-in-None-clause-gone
returns-in-None-clause-gone c =
    absurd (false≢true (ap (has_slot c.args.key) (sym (keys_nowhere c.args.peer c.args.self.now.chains (sym c.in-None.ensures))) ∙ c.requires))
