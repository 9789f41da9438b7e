use Rattle.std.proofs.Common.{length, map, ap, sym, subst, ◌∙◌}
use Rattle.std.proofs.lemmas.List.{length-map}
use Rattle.coap_observe.specs.Rings.{RingsValue, begun}
use Rattle.coap_observe.specs.Chains.{peer_chain, peer_in, chains_of, AreFirsts}
use Rattle.coap_observe.proofs.Firsts.{peers_begin}
use Rattle.coap_observe.proofs.Pairing.{length_begun, chains_begin}
use Rattle.coap_observe.proofs.chains.Chains.new.Goals as goal

pub invariant_of-result : goal.invariant_of-result
invariant_of-result c =
    let pairs = c.args.pairs.now in
    record {
      firsts = subst (AreFirsts 0 _) (sym (ap (map peer_in) c.in_ok-chains.ensures ∙ peers_begin pairs c.args.room pairs)) c.in_ok-firsts.ensures;
      paired =
          ap length c.in_ok-chains.ensures
          ∙ length-map pairs (peer_chain pairs c.args.room)
          ∙ sym (length_begun c.args.limit (length pairs))
          ∙ sym (ap (λ (v : RingsValue). length v.rings) c.in_ok-keys.ensures);
    }

pub returns : goal.returns
returns c =
    let pairs = c.args.pairs.now in
    ap (λ (v : RingsValue). record { limit = v.room; chains = chains_of c.in_ok-chains.chains.items v.rings }) c.in_ok-keys.ensures
    ∙ ap (λ cs. record { limit = c.args.limit; chains = chains_of cs (begun c.args.limit (length pairs)) }) c.in_ok-chains.ensures
    ∙ ap (λ cs. record { limit = c.args.limit; chains = cs }) (chains_begin pairs c.args.room c.args.limit pairs)
