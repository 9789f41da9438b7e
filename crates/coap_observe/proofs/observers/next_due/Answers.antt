use Rattle.std.proofs.Common.{◌≡◌, ◌<◌, ◌∷◌, Bool, true, length, get_or, add-one, ap, sym, subst, ◌∙◌, arith}
use Rattle.std.specs.Prelude.{slice_get, is_none, nat_le, ◌&&◌}
use Rattle.std.proofs.lemmas.Bool.{and_parts, leb-true}
use Rattle.dots_history.specs.Entries.{option_any}
use Rattle.coap_observe.specs.DueAmong.{includes_one}
use Rattle.coap_observe.specs.Observed.{ObservedValue, is_due}
use Rattle.coap_observe.specs.Seen.{list_for}
use Rattle.coap_observe.specs.Rolls.{observed_of, keys_of, has_key, one_at}
use Rattle.coap_observe.proofs.Keying.{one_placed, has_placed, length_observed}
use Rattle.coap_observe.proofs.Seeing.{nil_none}
use Rattle.coap_observe.proofs.Notifying.{none_more}
use Rattle.coap_observe.proofs.observers.next_due.Goals as goal

pub behind-key-requires : goal.behind-key-requires
behind-key-requires g c = record { there = omega (arith, c.loop-place-test.true, c.len-place-end.ensures); before = c.loop-place.invariant.key }

pub is_next-requires : goal.is_next-requires
is_next-requires g c =
    let members = c.args.roll.now.members in
    subst (λ k. has_key k members ≡ true) (sym c.behind-key.ensures) (has_placed members c.loop-place.place (omega (arith, c.loop-place-test.true, c.len-place-end.ensures)))

pub one-one-requires : goal.one-one-requires
one-one-requires g c =
    let members = c.args.roll.now.members in
    subst (λ k. has_key k members ≡ true) (sym c.behind-key.ensures) (has_placed members c.loop-place.place (omega (arith, c.loop-place-test.true, c.len-place-end.ensures)))

pub loop-place-preserved : goal.loop-place-preserved
loop-place-preserved g c =
    let lists = g.V.Views.lists c.args.views.now in
    let members = c.args.roll.now.members in
    let place = c.loop-place.place in
    let less : place < length members = omega (arith, c.loop-place-test.true, c.len-place-end.ensures) in
    let there = ap (λ k. one_at k members) c.behind-key.ensures ∙ one_placed members place less c.requires in
    let out = ap (λ o. nat_le c.args.from place && option_any (λ x. includes_one c.args.among x && is_due lists x) o) (sym there) ∙ sym c.is_next.ensures ∙ c.if-is_next.false in
    record {
      none = none_more lists c.args.among c.args.from place (observed_of members) out c.loop-place.invariant.none;
      key = c.behind-key.ensures ∙ ap (λ k. get_or (c.args.roll.now.room ∷ keys_of members) k 0) (sym (add-one place));
    }

pub returns-then-is_next-clause-next : goal.returns-then-is_next-clause-next
returns-then-is_next-clause-next g c =
    let lists = g.V.Views.lists c.args.views.now in
    let members = c.args.roll.now.members in
    let place = c.loop-place.place in
    let one = c.one-one.result.now in
    let less : place < length members = omega (arith, c.loop-place-test.true, c.len-place-end.ensures) in
    let there = sym (one_placed members place less c.requires) ∙ ap (λ k. one_at k members) (sym c.behind-key.ensures) ∙ c.one-one.ensures in
    let test : ObservedValue → Bool = λ o. includes_one c.args.among o && is_due lists o in
    let both = and_parts (nat_le c.args.from place) (option_any test (one_at c.behind-key.result members)) (sym c.is_next.ensures ∙ c.if-is_next.true) in
    let passes = sym (ap (option_any test) c.one-one.ensures) ∙ both.1 in
    let long = length_observed members in
    record {
      one = one;
      there = there;
      within = omega (arith, less, long);
      later = leb-true c.args.from place both.0;
      due = (and_parts (includes_one c.args.among one) (is_due lists one) passes).1;
      first = c.loop-place.invariant.none;
      observer_is = c.observer.ensures;
      number_is = c.number.ensures;
      gone_is = c.ends_at.ensures ∙ ap (λ o. is_none (slice_get (list_for lists o) 0)) c.observer-then-is_next.ensures ∙ nil_none (list_for lists one.observer);
    }
