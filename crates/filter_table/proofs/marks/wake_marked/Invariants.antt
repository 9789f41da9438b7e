-- the rows of the marks before the one at hand are as they are to be
use Rattle.std.proofs.Common.{◌≡◌, drop}
use Rattle.filter_table.specs.Rows.{woken_in}
use Rattle.filter_table.proofs.marks.wake_marked.Given as goal

abbrev pub invariant-loop-mark : goal.invariant-loop-mark
invariant-loop-mark l =
    woken_in l.domain l.cuid l.mid l.active (drop l.mark-index l.marks) l.rows.items ≡ woken_in l.domain l.cuid l.mid l.active l.marks l.fn.rows.items
