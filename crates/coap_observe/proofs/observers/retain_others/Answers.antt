use Rattle.std.proofs.Common.{◌<◌, filter, length, Some, ap, sym, subst, ◌∙◌}
use Rattle.std.specs.Prelude.{not, option_map, ◌==◌, bytes_eq}
use Rattle.std.proofs.lemmas.Bool.{and_parts, eqb-true}
use Rattle.coap_observe.specs.Observed.{is_token}
use Rattle.coap_observe.specs.Rolls.{observed_of, peer_of}
use Rattle.coap_observe.proofs.Chaining.{same_room_then}
use Rattle.coap_observe.proofs.Keying.{is_first, none_first, others_same, shorter}
use Rattle.coap_observe.proofs.Departing.{all_stay}
use Rattle.coap_observe.proofs.observers.retain_others.Goals as goal

pub token_key-requires : goal.token_key-requires
token_key-requires c = c.loop-key.invariant.chained

pub remove_key-requires : goal.remove_key-requires
remove_key-requires c =
    let first = is_first (is_token c.args.peer c.args.token.now) c.loop-key.roll.members c.in-Some.key c.loop-key.invariant.chained.apart (sym c.in-Some.ensures) in
    record {
      own = ap (option_map peer_of) first.there ∙ ap Some (eqb-true first.one.observer.peer c.args.peer (and_parts (first.one.observer.peer == c.args.peer) (bytes_eq first.one.observer.token c.args.token.now) first.passes).0);
      chained = c.loop-key.invariant.chained;
    }

pub loop-key-preserved : goal.loop-key-preserved
loop-key-preserved c =
    let test = is_token c.args.peer c.args.token.now in
    let members = c.loop-key.roll.members in
    let first = is_first test members c.in-Some.key c.loop-key.invariant.chained.apart (sym c.in-Some.ensures) in
    record {
      stay =
          ap (λ rs. filter (λ o. not (test o)) (observed_of rs)) c.remove_key.ensures.rows
          ∙ others_same (λ o. not (test o)) members c.in-Some.key first.one c.loop-key.invariant.chained.apart first.there (ap not first.passes)
          ∙ c.loop-key.invariant.stay;
      capacity = c.remove_key.ensures.capacity ∙ c.loop-key.invariant.capacity;
      chained = c.remove_key.ensures.chained;
      room = same_room_then c.remove_key.ensures.room c.loop-key.invariant.room;
    }

pub loop-key-smaller : goal.loop-key-smaller
loop-key-smaller c =
    let members = c.loop-key.roll.members in
    let first = is_first (is_token c.args.peer c.args.token.now) members c.in-Some.key c.loop-key.invariant.chained.apart (sym c.in-Some.ensures) in
    subst (λ rs. length rs < length members) (sym c.remove_key.ensures.rows) (shorter c.in-Some.key members first.has)

pub returns-clause-items : goal.returns-clause-items
returns-clause-items c =
    let test = is_token c.args.peer c.args.token.now in
    let members = c.loop-key.roll.members in
    let none = none_first test members (sym c.token_key.ensures ∙ c.in_default.is) in
    sym (all_stay test (observed_of members) none) ∙ c.loop-key.invariant.stay
