use Rattle.std.proofs.Common.{arith, sym}
use Rattle.std.proofs.lemmas.List.{set_past}
use Rattle.filter_table.proofs.slot_rows.wake_in_slot.Goals as goal

pub returns-then-len-at : goal.returns-then-len-at
returns-then-len-at c = sym (set_past c.args.rows.now.items c.args.slot _ (omega (arith, c.if-len-at.true, c.len.ensures)))
