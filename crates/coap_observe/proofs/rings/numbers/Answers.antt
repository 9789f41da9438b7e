use Rattle.std.proofs.Common.{◌∷◌, [], ◌++◌, length, ap, sym, ◌∙◌, add-one, arith}
use Rattle.coap_observe.specs.Rings.{numbers_from}
use Rattle.coap_observe.proofs.Beginning.{length_numbers, numbers_last}
use Rattle.coap_observe.proofs.rings.numbers.Goals as goal

pub push_reserved-requires : goal.push_reserved-requires
push_reserved-requires c =
    let long = ap length c.loop-number.invariant.0 ∙ length_numbers 0 c.loop-number.number in
    omega (arith, long, c.loop-number.invariant.1, c.loop-number-test.true, c.loop-number.numbers.ok)

pub loop-number-preserved : goal.loop-number-preserved
loop-number-preserved c = (
  c.push_reserved.ensures.items
      ∙ ap (λ ns. ns ++ c.loop-number.number ∷ []) c.loop-number.invariant.0
      ∙ ap (λ n. numbers_from 0 c.loop-number.number ++ n ∷ []) (omega arith)
      ∙ sym (numbers_last 0 c.loop-number.number)
      ∙ ap (numbers_from 0) (sym (add-one c.loop-number.number)),
  omega (arith, c.push_reserved.ensures.capacity, c.loop-number.invariant.1),
)
