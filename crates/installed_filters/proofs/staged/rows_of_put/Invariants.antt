-- the rows so far and those of the targets that are left are all
use Rattle.std.proofs.Common.{◌≡◌, ◌++◌, drop}
use Rattle.installed_filters.specs.Filters.{putting}
use Rattle.installed_filters.proofs.Copies.{rows_in}
use Rattle.installed_filters.proofs.staged.rows_of_put.Given as goal

abbrev pub invariant-loop-target : goal.invariant-loop-target
invariant-loop-target l =
    l.rows.items ++ rows_in (putting l.domain l.cuid l.put) (drop l.target-index l.put.targets) ≡ rows_in (putting l.domain l.cuid l.put) l.put.targets
