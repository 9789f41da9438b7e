use Rattle.std.proofs.Common.{◌≡◌, ◌+◌, ◌-◌, length, map, drop, ap, ◌∙◌, arith}
use Rattle.std.specs.List.{position_from}
use Rattle.std.specs.Prelude.{◌==◌}
use Rattle.std.proofs.lemmas.List.{length-map}
use Rattle.session_core.specs.Places.{row_peer}
use Rattle.session_core.proofs.Placing.{one_entered}
use Rattle.session_core.proofs.sessions.places_of.Goals as goal

pub loop-at-preserved : goal.loop-at-preserved
loop-at-preserved c =
    let i = c.loop-at.at - 1 in
    let peers = map row_peer c.args.rows.now in
    let next : c.loop-at.at ≡ i + 1 = omega (arith, c.loop-at-test.true) in
    let long : length peers ≡ length c.args.rows.now = length-map c.args.rows.now row_peer in
    record {
      within = omega (arith, c.loop-at.invariant.within);
      found = λ other.
          one_entered c.args.rows.now i _ _ _ other (omega (arith, long, c.loop-at.invariant.within, c.loop-at-test.true))
          (c.loop-at.invariant.found other ∙ ap (λ k. position_from (λ p. other == p) k (drop k peers)) next)
          (c.in_ok-insert.ensures.updates.0 other);
    }
