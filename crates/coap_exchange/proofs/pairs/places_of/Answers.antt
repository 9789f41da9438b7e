use Rattle.std.proofs.Common.{◌≡◌, ℕ, ◌+◌, ◌-◌, ◌<◌, ◌≤◌, length, drop, ap, ◌∙◌, arith}
use Rattle.std.specs.List.{position_from}
use Rattle.coap_exchange.specs.Pairs.{same_pair}
use Rattle.coap_exchange.proofs.Finding.{one_entered}
use Rattle.coap_exchange.proofs.pairs.places_of.Goals as goal

pub loop-place-preserved : goal.loop-place-preserved
loop-place-preserved c =
    let i = c.loop-place.place - 1 in
    let next : c.loop-place.place ≡ i + 1 = omega (arith, c.loop-place-test.true) in
    record {
      within = omega (arith, c.loop-place.invariant.within);
      found = λ other.
          one_entered c.args.pairs.now i _ _ _ other (omega (arith, c.loop-place.invariant.within, c.loop-place-test.true))
          (c.loop-place.invariant.found other ∙ ap (λ k. position_from (same_pair other) k (drop k c.args.pairs.now)) next)
          (c.in_ok-insert.ensures.updates.0 other);
    }
