-- the rows before the one at hand are changed
use Rattle.std.proofs.Common.{◌≡◌, ◌++◌, map, take, drop}
use Rattle.filter_table.specs.TableRows.{activated}
use Rattle.filter_table.proofs.acls.activate_all.Given as goal

abbrev pub invariant-loop-list : goal.invariant-loop-list
invariant-loop-list l =
    l.placed ≡ map (activated l.domain l.cuid l.active) (take l.list-index l.fn.placed) ++ drop l.list-index l.fn.placed
