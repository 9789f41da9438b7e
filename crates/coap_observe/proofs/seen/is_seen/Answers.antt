use Rattle.std.proofs.Common.{◌≡◌, length, drop, get_or, ap, sym, ◌∙◌, arith}
use Rattle.std.proofs.lemmas.Option.{slice_get-get_or, get_or_from_slice_get}
use Rattle.coap_observe.specs.Seen.{list_for, same_seen}
use Rattle.coap_observe.proofs.Seeing.{more_seen, other_seen, all_seen}
use Rattle.coap_observe.proofs.seen.is_seen.Goals as goal

pub returns-then-not-is_at : goal.returns-then-not-is_at
returns-then-not-is_at g c =
    let list = list_for (g.V.Views.lists c.args.views.now) c.args.observer.now in
    let x = get_or c.args.items.now c.loop-place.place (0, 0) in
    let there = slice_get-get_or c.args.items.now c.loop-place.place (0, 0) c.loop-place-test.true in
    let is = sym (get_or_from_slice_get c.args.items.now c.loop-place.place x x there) in
    sym (other_seen c.args.items.now list c.loop-place.place x c.loop-place-test.true is (sym c.is_at.ensures ∙ c.if-not-is_at.true))
    ∙ c.loop-place.invariant

pub loop-place-preserved : goal.loop-place-preserved
loop-place-preserved g c =
    let list = list_for (g.V.Views.lists c.args.views.now) c.args.observer.now in
    let x = get_or c.args.items.now c.loop-place.place (0, 0) in
    let there = slice_get-get_or c.args.items.now c.loop-place.place (0, 0) c.loop-place-test.true in
    let is = sym (get_or_from_slice_get c.args.items.now c.loop-place.place x x there) in
    more_seen c.args.items.now list c.loop-place.place x c.loop-place-test.true is (sym c.is_at.ensures ∙ c.if-not-is_at.false)
    ∙ c.loop-place.invariant

pub returns : goal.returns
returns g c =
    let list = list_for (g.V.Views.lists c.args.views.now) c.args.observer.now in
    let end : c.loop-place.place ≡ length c.args.items.now = omega arith in
    c.ends_at.ensures
    ∙ sym (all_seen c.args.items.now list)
    ∙ sym (ap (λ k. same_seen (drop k c.args.items.now) (drop k list)) end)
    ∙ c.loop-place.invariant
