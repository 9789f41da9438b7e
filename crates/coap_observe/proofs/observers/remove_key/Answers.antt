use Rattle.std.proofs.Common.{ap, sym, subst, ◌∙◌}
use Rattle.std.proofs.lemmas.Bool.{eq-eqb}
use Rattle.coap_observe.specs.Orders.{has_slot}
use Rattle.coap_observe.specs.Chains.{ChainsValue, room_in, one_left, IsNowhere, AreChained}
use Rattle.coap_observe.specs.Rolls.{RollValue, one_at, without_key}
use Rattle.coap_observe.proofs.Chaining.{chained_less, own_has, room_left}
use Rattle.coap_observe.proofs.Keying.{owner, has_one}
use Rattle.coap_observe.proofs.observers.remove_key.Goals as goal

pub remove-requires : goal.remove-requires
remove-requires c =
    let members = c.args.roll.now.members in
    let of = owner c.args.peer (one_at c.args.key members) c.requires.own in
    has_one c.args.key of.one members of.there

pub depart-requires : goal.depart-requires
depart-requires c =
    let members = c.args.roll.now.members in
    let of = owner c.args.peer (one_at c.args.key members) c.requires.own in
    ap (has_slot c.args.key) (c.requires.chained.own c.args.peer)
    ∙ own_has c.args.peer c.args.key of.one members of.there (eq-eqb of.one.observer.peer c.args.peer of.peer_is)

pub returns-clause-chained : goal.returns-clause-chained
returns-clause-chained c =
    let members = c.args.roll.now.members in
    let chains = c.args.chains.now.chains in
    let of = owner c.args.peer (one_at c.args.key members) c.requires.own in
    let gone = subst (λ (v : ChainsValue). IsNowhere c.args.key v.chains) c.depart.ensures.others c.depart.ensures.gone in
    subst (λ (v : ChainsValue). AreChained v.chains c.remove.new.self.members) (sym c.depart.ensures.others)
    (subst (λ (r : RollValue). AreChained (one_left c.args.peer c.args.key chains) r.members) (sym c.remove.ensures)
    (subst (λ p. AreChained (one_left p c.args.key chains) (without_key c.args.key members)) of.peer_is
    (chained_less chains members c.args.key of.one of.there c.requires.chained (subst (λ p. IsNowhere c.args.key (one_left p c.args.key chains)) (sym of.peer_is) gone))))

pub returns-clause-room : goal.returns-clause-room
returns-clause-room c = record {
  limit = ap (λ (v : ChainsValue). v.limit) c.depart.ensures.others;
  room = λ peer. ap (λ (v : ChainsValue). room_in peer v.chains) c.depart.ensures.others ∙ room_left c.args.peer c.args.key c.args.chains.now.chains peer;
}
