use Rattle.std.proofs.Common.{ℕ, ◌∷◌, [], ◌++◌, length, ap, sym, ◌∙◌, arith}
use Rattle.std.specs.List.{range_with_len}
use Rattle.std.proofs.lemmas.List.FromFn.{length-range_with_len}
use Rattle.gateway_agent.proofs.Sizes.{range_more}
use Rattle.gateway_agent.proofs.replies.slot_numbers.Goals as goal

pub push_reserved-requires : goal.push_reserved-requires
push_reserved-requires c =
    let long = ap length c.loop-slot.invariant.0 ∙ length-range_with_len 0 c.loop-slot.slot in
    omega (arith, long, c.loop-slot.invariant.1, c.loop-slot-test.true, c.loop-slot.numbers.ok)

pub loop-slot-preserved : goal.loop-slot-preserved
loop-slot-preserved c = (
  c.push_reserved.ensures.items
      ∙ ap (λ ns. ns ++ c.loop-slot.slot ∷ []) c.loop-slot.invariant.0
      ∙ ap (λ (n : ℕ). range_with_len 0 c.loop-slot.slot ++ n ∷ []) (omega arith)
      ∙ sym (range_more 0 c.loop-slot.slot),
  omega (arith, c.push_reserved.ensures.capacity, c.loop-slot.invariant.1),
)
