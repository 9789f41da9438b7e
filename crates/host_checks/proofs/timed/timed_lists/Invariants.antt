use Rattle.std.proofs.Common.{◌≡◌, List, ◌++◌, map}
use Rattle.dots_history.specs.declared.entry.Entry.{Entry}
use Rattle.filter_table.specs.TableRows.{row_of_acl}
use Rattle.dots_registry.specs.RegistryValues.{Represents, time_of}
use Rattle.host_checks.specs.Ends.{acl_value, timed_acl}
use Rattle.host_checks.proofs.timed.timed_lists.Given as goal

abbrev pub invariant-loop-list : goal.invariant-loop-list
invariant-loop-list l =
    (entries : List Entry) → Represents l.fn.registry entries
    → map (timed_acl l.fn.settings (time_of l.fn.registry) entries) (map row_of_acl l.fn.table.acls)
    ≡ map acl_value l.lists ++ map (timed_acl l.fn.settings (time_of l.fn.registry) entries) l.list-iterator
