-- what the lists of the rest say, those of all say
use Rattle.std.proofs.Common.{◌≡◌, drop}
use Rattle.acl_lists.specs.Fates.{decision_of_rows}
use Rattle.acl_lists.specs.HandedOut.{prefixes_in}
use Rattle.acl_lists.proofs.deciding.decision_of_rows.Given as goal

abbrev pub invariant-loop-row : goal.invariant-loop-row
invariant-loop-row l =
    decision_of_rows (prefixes_in l.domains) l.packet (drop l.row-index l.lists)
    ≡ decision_of_rows (prefixes_in l.domains) l.packet l.lists
