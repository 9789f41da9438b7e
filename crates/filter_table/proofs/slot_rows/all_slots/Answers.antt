use Rattle.std.proofs.Common.{arith, ap, ◌∙◌, ◌==◌}
use Rattle.std.specs.List.{count_by}
use Rattle.std.proofs.lemmas.Grind.{common_steps}
use Rattle.filter_table.proofs.Slots.{below_more}
use Rattle.filter_table.proofs.slot_rows.all_slots.Goals as goal

pub loop-slot-preserved : goal.loop-slot-preserved
loop-slot-preserved c = (
  λ s. ap (count_by (λ other. other == s)) c.push_reserved.ensures.items ∙ below_more c.loop-slot.slot c.loop-slot.slots.items c.loop-slot.invariant.0 s,
  grind (arith, common_steps),
  omega (arith, c.push_reserved.ensures.capacity, c.loop-slot.invariant.2),
)
