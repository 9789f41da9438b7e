use Rattle.std.proofs.Common.{◌<◌, ◌^◌, length, ap, sym, subst, ◌∙◌, rules, arith}
use Rattle.std.specs.Prelude.{position}
use Rattle.coap_observe.specs.Rings.{RingsValue, RingValue, one_more}
use Rattle.coap_observe.specs.declared.chains.Chain.{Chain}
use Rattle.coap_observe.specs.Chains.{ChainsValue, is_chain_of, keys_in, room_in, one_chained, chains_of, IsNowhere}
use Rattle.coap_observe.proofs.Chaining.{chained_at, chain_within, chained_nowhere, keys_placed, room_placed}
use Rattle.coap_observe.proofs.Pairing.{length_chains, length_rings, ring_placed, room_placed_at, more_placed, outside_all}
use Rattle.coap_observe.proofs.chains.Chains.push.Goals as goal

pub index-requires : goal.index-requires
index-requires c =
    let peer = c.args.peer in
    let chains = c.self.inside.chains.items in
    let rings = c.self.inside.keys.rings in
    let all = chains_of chains rings in
    let found = ap (λ (v : ChainsValue). position (is_chain_of peer) v.chains) c.self.view_is ∙ sym c.in-Some.ensures in
    let within = chain_within peer c.in-Some.at all found in
    let long = length_chains chains rings c.self.invariant.paired in
    omega (arith, within, long, c.self.invariant.paired, c.self.inside.chains.ok)

pub push-requires-clause-at : goal.push-requires-clause-at
push-requires-clause-at c =
    let peer = c.args.peer in
    let chains = c.self.inside.chains.items in
    let rings = c.self.inside.keys.rings in
    let all = chains_of chains rings in
    let found = ap (λ (v : ChainsValue). position (is_chain_of peer) v.chains) c.self.view_is ∙ sym c.in-Some.ensures in
    let within = chain_within peer c.in-Some.at all found in
    let long = length_chains chains rings c.self.invariant.paired in
    omega (arith, within, long)

pub push-requires-clause-few : goal.push-requires-clause-few
push-requires-clause-few c =
    let peer = c.args.peer in
    let chains = c.self.inside.chains.items in
    let rings = c.self.inside.keys.rings in
    let all = chains_of chains rings in
    let found = ap (λ (v : ChainsValue). position (is_chain_of peer) v.chains) c.self.view_is ∙ sym c.in-Some.ensures in
    let within = chain_within peer c.in-Some.at all found in
    let long = length_chains chains rings c.self.invariant.paired in
    let slots = ap (λ (r : RingValue). length r.slots) (ring_placed c.in-Some.at chains rings c.self.invariant.paired) ∙ ap length (keys_placed peer c.in-Some.at all found) in
    let room =
    sym (room_placed peer c.in-Some.at all found)
    ∙ room_placed_at c.in-Some.at chains rings c.index.result.now (omega (arith, within, long, c.self.invariant.paired)) c.self.invariant.paired
    ∙ ap (λ (x : Chain). x.room) (sym c.index.ensures) in
    let small : c.index.result.now.room < 2 ^ 64 = search rules in
    let few = subst (λ (v : ChainsValue). length (keys_in peer v.chains) < room_in peer v.chains) (sym c.self.view_is) c.requires.room in
    omega (arith, slots, room, small, few)

pub push-requires-clause-outside : goal.push-requires-clause-outside
push-requires-clause-outside c =
    outside_all c.args.key c.self.inside.chains.items c.self.inside.keys.rings c.self.invariant.paired (subst (λ (v : ChainsValue). IsNowhere c.args.key v.chains) (sym c.self.view_is) c.requires.new)

pub invariant_of-self : goal.invariant_of-self
invariant_of-self c = record {
  firsts = c.self.invariant.firsts;
  paired = c.self.invariant.paired ∙ sym (ap (λ (v : RingsValue). length v.rings) c.push.ensures ∙ length_rings (one_more c.args.key) c.in-Some.at c.self.inside.keys.rings);
}

pub returns-in-Some : goal.returns-in-Some
returns-in-Some c =
    let peer = c.args.peer in
    let chains = c.self.inside.chains.items in
    let rings = c.self.inside.keys.rings in
    let all = chains_of chains rings in
    let found = ap (λ (v : ChainsValue). position (is_chain_of peer) v.chains) c.self.view_is ∙ sym c.in-Some.ensures in
    ap (λ (v : RingsValue). record { limit = v.room; chains = chains_of chains v.rings }) c.push.ensures
    ∙ ap (λ xs. record { limit = c.self.inside.keys.room; chains = xs }) (more_placed c.args.key c.in-Some.at chains rings ∙ chained_at peer c.args.key c.in-Some.at all found)
    ∙ ap (λ (v : ChainsValue). record { limit = v.limit; chains = one_chained peer c.args.key v.chains }) c.self.view_is

pub returns-in-None : goal.returns-in-None
returns-in-None c = ap (λ xs. record { limit = c.args.self.now.limit; chains = xs }) (chained_nowhere c.args.peer c.args.key c.args.self.now.chains (sym c.in-None.ensures))
