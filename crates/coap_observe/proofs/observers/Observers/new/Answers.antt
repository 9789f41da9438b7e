use Rattle.std.proofs.Common.{[], rules, ap, sym, subst, ◌∙◌, arith}
use Rattle.coap_observe.specs.Chains.{ChainsValue, room_in, empty_chains, AreChained}
use Rattle.coap_observe.specs.Observing.{AreBounded}
use Rattle.coap_observe.specs.Rolls.{observed_of}
use Rattle.coap_observe.proofs.Chaining.{none_chained, rooms_begin}
use Rattle.coap_observe.proofs.Counting.{none_bounded}
use Rattle.coap_observe.proofs.observers.Observers.new.Goals as goal

pub invariant_of-result : goal.invariant_of-result
invariant_of-result c =
    let pairs = c.in_ok-pairs.pairs in
    let room = c.limits-room.result.observers in
    let limit = c.room.result in
    let chains = ap (λ (v : ChainsValue). v.chains) c.in_ok-chains.ensures ∙ ap (λ ps. empty_chains ps room limit ps) c.pairs-3.ensures in
    record {
      bounded = subst (λ members. AreBounded pairs room (observed_of members)) (sym c.in_ok-roll.ensures.rows) (none_bounded pairs room);
      reserved = search rules;
      chained =
          subst (λ members. AreChained c.in_ok-chains.chains.chains members) (sym c.in_ok-roll.ensures.rows)
          (subst (λ cs. AreChained cs []) (sym chains) (none_chained pairs room limit pairs));
      rooms = λ peer. ap (room_in peer) chains ∙ rooms_begin room limit pairs peer;
      limit = omega (arith, ap (λ (v : ChainsValue). v.limit) c.in_ok-chains.ensures, c.room.ensures);
    }
