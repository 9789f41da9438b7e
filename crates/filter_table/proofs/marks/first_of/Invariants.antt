-- the first of the rest is the first of all
use Rattle.std.proofs.Common.{◌≡◌, drop}
use Rattle.std.specs.List.{find}
use Rattle.filter_table.specs.declared.rank.Rank.{Rank}
use Rattle.filter_table.specs.Rows.{slot_is_of}
use Rattle.filter_table.proofs.marks.first_of.Given as goal

abbrev pub invariant-loop-mark : goal.invariant-loop-mark
invariant-loop-mark l =
    find (λ (mark : Rank). slot_is_of l.domain l.cuid l.mid l.rows mark.slot) (drop l.mark-index l.marks)
    ≡ find (λ (mark : Rank). slot_is_of l.domain l.cuid l.mid l.rows mark.slot) l.marks
