use Rattle.std.proofs.Common.{◌≡◌, ◌+◌, ◌-◌, length, map, drop, ap, ◌∙◌, arith}
use Rattle.std.specs.List.{position_from}
use Rattle.std.specs.Prelude.{◌==◌}
use Rattle.std.proofs.lemmas.List.{length-map}
use Rattle.coap_observe.specs.Chains.{pair_peer}
use Rattle.coap_observe.proofs.Firsts.{one_entered}
use Rattle.coap_observe.proofs.chains.firsts_of.Goals as goal

pub loop-place-preserved : goal.loop-place-preserved
loop-place-preserved c =
    let i = c.loop-place.place - 1 in
    let peers = map pair_peer c.args.pairs.now in
    let next : c.loop-place.place ≡ i + 1 = omega (arith, c.loop-place-test.true) in
    let long : length peers ≡ length c.args.pairs.now = length-map c.args.pairs.now pair_peer in
    record {
      within = omega (arith, c.loop-place.invariant.within);
      found = λ other.
          one_entered c.args.pairs.now i _ _ _ other (omega (arith, long, c.loop-place.invariant.within, c.loop-place-test.true))
          (c.loop-place.invariant.found other ∙ ap (λ k. position_from (λ p. other == p) k (drop k peers)) next)
          (c.in_ok-insert.ensures.updates.0 other);
    }
