use Rattle.std.proofs.Common.{◌∷◌, [], ◌++◌, ap, sym, ◌∙◌, arith}
use Rattle.std.proofs.lemmas.Option.{slice_get_within}
use Rattle.coap_observe.specs.Seen.{list_for}
use Rattle.coap_exchange.proofs.Places.{take_more}
use Rattle.coap_observe.proofs.seen.SeenList.of.Goals as goal

pub loop-place-preserved : goal.loop-place-preserved
loop-place-preserved g c =
    let list = list_for (g.V.Views.lists c.args.views.now) c.args.observer.now in
    let there = sym c.in-Some.ensures.value in
    let less = slice_get_within list c.loop-place.place c.in-Some.seen there in
    record {
      front =
          c.push.ensures.items
          ∙ ap (λ xs. xs ++ c.in-Some.seen ∷ []) c.loop-place.invariant.front
          ∙ sym (take_more list c.loop-place.place c.in-Some.seen there);
      within = omega (arith, less);
      few = λ some. c.view_at.ensures.few;
    }
