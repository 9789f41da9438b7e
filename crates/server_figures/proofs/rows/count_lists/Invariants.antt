use Rattle.std.proofs.Common.{◌≡◌, ◌+◌, length}
use Rattle.server_figures.proofs.rows.count_lists.Given as goal

abbrev pub invariant-loop-list : goal.invariant-loop-list
invariant-loop-list l = record { counted : l.lists + length l._list-iterator ≡ length l.fn.table.acls }
