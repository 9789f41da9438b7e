-- what the lists of the rest say, those of all say
use Rattle.std.proofs.Common.{◌≡◌, map, drop}
use Rattle.acl_lists.specs.Fates.{decision_of_rows}
use Rattle.filter_table.specs.TableRows.{row_of_acl}
use Rattle.dots_settings.specs.Lookups.{prefixes_of}
use Rattle.filter_table.proofs.fates.decision_of_acls.Given as goal

abbrev pub invariant-loop-list : goal.invariant-loop-list
invariant-loop-list l =
    decision_of_rows (prefixes_of l.settings) l.packet (map row_of_acl (drop l.list-index l.acls))
    ≡ decision_of_rows (prefixes_of l.settings) l.packet (map row_of_acl l.acls)
