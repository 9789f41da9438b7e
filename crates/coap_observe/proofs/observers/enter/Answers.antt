use Rattle.std.proofs.Common.{◌∷◌, [], ◌++◌, length, ap, sym, subst, ◌∙◌, arith}
use Rattle.std.specs.Prelude.{option_map, unwrap_or, ◌==◌, bytes_eq}
use Rattle.std.proofs.lemmas.Bool.{and_parts, eqb-true}
use Rattle.coap_exchange.proofs.Firsts.{found_none}
use Rattle.coap_observe.specs.Chains.{ChainsValue, room_in, one_chained, AreChained}
use Rattle.coap_observe.specs.Observed.{ObservedValue, is_token, registered_again}
use Rattle.coap_observe.specs.Observing.{registered_first}
use Rattle.coap_observe.specs.Rolls.{RollValue, observed_of, first_key}
use Rattle.coap_observe.proofs.Chaining.{chained_last, chained_with, nowhere_new, room_chained, same_room}
use Rattle.coap_observe.proofs.Entering.{entered_last, length_last, room_for_last}
use Rattle.coap_observe.proofs.Keying.{is_first, first_own, none_first, entered_key, length_observed, observed_last}
use Rattle.coap_observe.proofs.observers.enter.Goals as goal

pub token_key-requires : goal.token_key-requires
token_key-requires c = c.requires.chained

pub register_again-requires : goal.register_again-requires
register_again-requires c =
    let members = c.args.roll.now.members in
    let found = ap (λ token. first_key (is_token c.args.observer.peer token) members) (sym c.bytes.ensures.value) ∙ sym c.in-Some.ensures in
    (is_first (is_token c.args.observer.peer c.args.observer.token) members c.in-Some.key c.requires.chained.apart found).has

pub push-key-requires : goal.push-key-requires
push-key-requires c =
    let members = c.args.roll.now.members in
    let found = ap (λ token. first_key (is_token c.args.observer.peer token) members) (sym c.bytes.ensures.value) ∙ sym c.in-None.ensures in
    let none = none_first (is_token c.args.observer.peer c.args.observer.token) members found in
    let long = ap length (entered_last c.args.observer c.args.seen (observed_of members) none) in
    let more = length_last (registered_first c.args.observer c.args.seen) (observed_of members) in
    let size = length_observed members in
    omega (arith, long, more, size, c.requires.fits)

pub push-requires : goal.push-requires
push-requires c =
    let members = c.args.roll.now.members in
    let found = ap (λ token. first_key (is_token c.args.observer.peer token) members) (sym c.bytes.ensures.value) ∙ sym c.in-None.ensures in
    let none = none_first (is_token c.args.observer.peer c.args.observer.token) members found in
    record {
      room = room_for_last c.args.observer c.args.seen members c.args.chains.now.chains none c.requires.chained c.requires.room;
      below = omega (arith, c.push-key.ensures.below, c.requires.limit);
      new = nowhere_new c.push-key.result members c.args.chains.now.chains c.push-key.ensures.new c.requires.chained.within;
    }

pub returns-in-Some-clause-number : goal.returns-in-Some-clause-number
returns-in-Some-clause-number c =
    let members = c.args.roll.now.members in
    let test = is_token c.args.observer.peer c.args.observer.token in
    let found = ap (λ token. first_key (is_token c.args.observer.peer token) members) (sym c.bytes.ensures.value) ∙ sym c.in-Some.ensures in
    ap (λ o. unwrap_or o 1) c.register_again.ensures.number
    ∙ ap (λ o. unwrap_or (option_map (λ (y : ObservedValue). y.number) o) 1) (first_own test members c.in-Some.key c.requires.chained.apart found)

pub returns-in-Some-clause-list : goal.returns-in-Some-clause-list
returns-in-Some-clause-list c =
    let members = c.args.roll.now.members in
    let found = ap (λ token. first_key (is_token c.args.observer.peer token) members) (sym c.bytes.ensures.value) ∙ sym c.in-Some.ensures in
    ap (λ (r : RollValue). observed_of r.members) c.register_again.ensures.again
    ∙ entered_key c.args.observer c.args.seen members c.in-Some.key c.requires.chained.apart found

pub returns-in-Some-clause-chained : goal.returns-in-Some-clause-chained
returns-in-Some-clause-chained c =
    let members = c.args.roll.now.members in
    let test = is_token c.args.observer.peer c.args.observer.token in
    let found = ap (λ token. first_key (is_token c.args.observer.peer token) members) (sym c.bytes.ensures.value) ∙ sym c.in-Some.ensures in
    let first = is_first test members c.in-Some.key c.requires.chained.apart found in
    let same_peer = sym (eqb-true first.one.observer.peer c.args.observer.peer (and_parts (first.one.observer.peer == c.args.observer.peer) (bytes_eq first.one.observer.token c.args.observer.token) first.passes).0) in
    subst (λ (r : RollValue). AreChained c.args.chains.now.chains r.members) (sym c.register_again.ensures.again)
    (chained_with c.args.chains.now.chains members c.in-Some.key (registered_again c.args.observer c.args.seen) first.one first.there same_peer c.requires.chained)

pub returns-in-Some-clause-room : goal.returns-in-Some-clause-room
returns-in-Some-clause-room c = same_room c.args.chains.now

pub returns-in-None-clause-number : goal.returns-in-None-clause-number
returns-in-None-clause-number c =
    let members = c.args.roll.now.members in
    let test = is_token c.args.observer.peer c.args.observer.token in
    let found = ap (λ token. first_key (is_token c.args.observer.peer token) members) (sym c.bytes.ensures.value) ∙ sym c.in-None.ensures in
    sym (ap (λ o. unwrap_or (option_map (λ (y : ObservedValue). y.number) o) 1) (found_none test (observed_of members) (none_first test members found)))

pub returns-in-None-clause-list : goal.returns-in-None-clause-list
returns-in-None-clause-list c =
    let members = c.args.roll.now.members in
    let test = is_token c.args.observer.peer c.args.observer.token in
    let found = ap (λ token. first_key (is_token c.args.observer.peer token) members) (sym c.bytes.ensures.value) ∙ sym c.in-None.ensures in
    ap (λ (r : RollValue). observed_of r.members) c.push-key.ensures.last
    ∙ observed_last (c.push-key.result, c.new.result) members
    ∙ ap (λ o. observed_of members ++ o ∷ []) c.new.ensures
    ∙ entered_last c.args.observer c.args.seen (observed_of members) (none_first test members found)

pub returns-in-None-clause-chained : goal.returns-in-None-clause-chained
returns-in-None-clause-chained c =
    let members = c.args.roll.now.members in
    let chains = c.args.chains.now.chains in
    let first = registered_first c.args.observer c.args.seen in
    let key = c.push-key.result in
    let last = c.push-key.ensures.last ∙ ap (λ o. record { room = c.args.roll.now.room; members = members ++ (key, o) ∷ [] }) c.new.ensures in
    let found = ap (λ token. first_key (is_token c.args.observer.peer token) members) (sym c.bytes.ensures.value) ∙ sym c.in-None.ensures in
    let none = none_first (is_token c.args.observer.peer c.args.observer.token) members found in
    let some = room_for_last c.args.observer c.args.seen members chains none c.requires.chained c.requires.room in
    subst (λ (v : ChainsValue). AreChained v.chains c.push-key.new.self.members) (sym c.push.ensures)
    (subst (λ (r : RollValue). AreChained (one_chained c.args.observer.peer key chains) r.members) (sym last)
    (chained_last chains members key first c.push-key.ensures.new (omega (arith, some)) c.requires.chained))

pub returns-in-None-clause-room : goal.returns-in-None-clause-room
returns-in-None-clause-room c = record {
  limit = ap (λ (v : ChainsValue). v.limit) c.push.ensures;
  room = λ peer. ap (λ (v : ChainsValue). room_in peer v.chains) c.push.ensures ∙ room_chained c.args.observer.peer c.push-key.result c.args.chains.now.chains peer;
}
