use Rattle.std.proofs.Common.{◌+◌, ◌∷◌, [], ◌++◌, length, ap, sym, ◌∙◌, add-one, arith}
use Rattle.coap_observe.specs.Rings.{rings_from}
use Rattle.coap_observe.proofs.Beginning.{length_rings, rings_last}
use Rattle.coap_observe.proofs.rings.rings_from.Goals as goal

pub push_reserved-requires : goal.push_reserved-requires
push_reserved-requires c =
    let long = ap length c.loop-place.invariant.0 ∙ length_rings c.args.start c.loop-place.place in
    omega (arith, long, c.loop-place.invariant.1, c.loop-place-test.true, c.loop-place.rings.ok)

pub loop-place-preserved : goal.loop-place-preserved
loop-place-preserved c = (
  c.push_reserved.ensures.items
      ∙ ap (λ rs. rs ++ (record { start = c.args.start + c.loop-place.place; count = 0 }) ∷ []) c.loop-place.invariant.0
      ∙ sym (rings_last c.args.start c.loop-place.place)
      ∙ ap (rings_from c.args.start) (sym (add-one c.loop-place.place)),
  omega (arith, c.push_reserved.ensures.capacity, c.loop-place.invariant.1),
)
