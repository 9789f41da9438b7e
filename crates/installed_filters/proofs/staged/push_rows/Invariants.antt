-- the rows so far and those of the prefixes that are left are all
use Rattle.std.proofs.Common.{◌≡◌, ◌++◌, false, drop, map}
use Rattle.ip_scope.specs.Prefix.{PrefixValue}
use Rattle.installed_filters.specs.Filters.{rows_of_target, scrub_row_with, putting}
use Rattle.installed_filters.proofs.staged.push_rows.Given as goal

abbrev pub invariant-loop-prefix : goal.invariant-loop-prefix
invariant-loop-prefix l =
    l.rows.items
    ++ map (λ (p : PrefixValue). scrub_row_with false (record { put = putting l.domain l.cuid l.put; target = l.target; prefix = p })) (drop l.prefix-index l.target.prefixes)
    ≡ l.fn.rows.items ++ rows_of_target (putting l.domain l.cuid l.put) l.target
