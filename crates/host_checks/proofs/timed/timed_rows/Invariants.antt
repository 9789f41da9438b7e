use Rattle.std.proofs.Common.{◌≡◌, List, ◌++◌, map}
use Rattle.dots_history.specs.declared.entry.Entry.{Entry}
use Rattle.filter_table.specs.TableRows.{active_rows}
use Rattle.dots_registry.specs.RegistryValues.{Represents, time_of}
use Rattle.host_checks.specs.Ends.{scrub_value, timed_scrub}
use Rattle.host_checks.proofs.timed.timed_rows.Given as goal

abbrev pub invariant-loop-row : goal.invariant-loop-row
invariant-loop-row l =
    (entries : List Entry) → Represents l.fn.registry entries
    → map (timed_scrub l.fn.settings (time_of l.fn.registry) entries) (active_rows l.fn.table.scrubs)
    ≡ map scrub_value l.rows ++ map (timed_scrub l.fn.settings (time_of l.fn.registry) entries) l.row-iterator
