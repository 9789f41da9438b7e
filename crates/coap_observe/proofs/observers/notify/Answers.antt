use Rattle.std.proofs.Common.{◌≡◌, true, Some, refl, ap, sym, subst, ◌∙◌}
use Rattle.std.specs.Prelude.{option_map}
use Rattle.coap_observe.specs.declared.observer.Observer.{Observer}
use Rattle.coap_observe.specs.Seen.{list_for}
use Rattle.coap_observe.specs.Chains.{AreChained}
use Rattle.coap_observe.specs.Observed.{notified}
use Rattle.coap_observe.specs.Rolls.{RollValue, observed_of, has_key, one_at, without_key, with_key, peer_of}
use Rattle.coap_observe.proofs.Chaining.{chained_with, same_room}
use Rattle.coap_observe.proofs.Keying.{one_placed, has_placed, removed_placed, changed_placed}
use Rattle.coap_observe.proofs.Notifying.{gone_at, notified_at}
use Rattle.coap_observe.proofs.observers.notify.Goals as goal

pub one-one-requires : goal.one-one-requires
one-one-requires g c = subst (λ k. has_key k c.args.roll.now.members ≡ true) (sym c.at-key.ensures) (has_placed c.args.roll.now.members c.args.place c.requires.at)

pub remove_key-requires : goal.remove_key-requires
remove_key-requires g c = record {
  own = ap (option_map peer_of) c.one-one.ensures ∙ ap (λ (o : Observer). Some o.peer) (sym c.observer.ensures);
  chained = c.requires.chained;
}

pub notify-requires : goal.notify-requires
notify-requires g c = subst (λ k. has_key k c.args.roll.now.members ≡ true) (sym c.at-key.ensures) (has_placed c.args.roll.now.members c.args.place c.requires.at)

pub returns-then-is_empty-clause-items : goal.returns-then-is_empty-clause-items
returns-then-is_empty-clause-items g c =
    let lists = g.V.Views.lists c.args.views.now in
    let members = c.args.roll.now.members in
    let there = sym (one_placed members c.args.place c.requires.at c.requires.chained.apart) ∙ ap (λ k. one_at k members) (sym c.at-key.ensures) ∙ c.one-one.ensures in
    ap observed_of c.remove_key.ensures.rows
    ∙ ap (λ k. observed_of (without_key k members)) c.at-key.ensures
    ∙ removed_placed members c.args.place c.requires.at c.requires.chained.apart
    ∙ gone_at lists c.args.id (observed_of members) c.args.place c.one-one.result.now c.of-seen.result there
    (c.of-seen.ensures ∙ ap (list_for lists) c.observer-2.ensures) (sym c.is_empty.ensures ∙ c.if-is_empty.true)

pub returns-clause-items : goal.returns-clause-items
returns-clause-items g c =
    let lists = g.V.Views.lists c.args.views.now in
    let members = c.args.roll.now.members in
    let there = sym (one_placed members c.args.place c.requires.at c.requires.chained.apart) ∙ ap (λ k. one_at k members) (sym c.at-key.ensures) ∙ c.one-one.ensures in
    ap (λ (r : RollValue). observed_of r.members) c.notify.ensures
    ∙ ap (λ k. observed_of (with_key k (notified c.args.id c.of-seen.result) members)) c.at-key.ensures
    ∙ changed_placed (notified c.args.id c.of-seen.result) members c.args.place c.requires.at c.requires.chained.apart
    ∙ notified_at lists c.args.id (observed_of members) c.args.place c.one-one.result.now c.of-seen.result there
    (c.of-seen.ensures ∙ ap (list_for lists) c.observer-2.ensures) (sym c.is_empty.ensures ∙ c.if-is_empty.false)

pub returns-clause-chained : goal.returns-clause-chained
returns-clause-chained g c =
    subst (λ (r : RollValue). AreChained c.args.chains.now.chains r.members) (sym c.notify.ensures)
    (chained_with c.args.chains.now.chains c.args.roll.now.members c.at-key.result (notified c.args.id c.of-seen.result) c.one-one.result.now c.one-one.ensures refl c.requires.chained)

pub returns-clause-room : goal.returns-clause-room
returns-clause-room g c = same_room c.args.chains.now
