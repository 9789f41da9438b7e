-- the rows before the one at hand have their numbers, and those behind it are still to get theirs
use Rattle.std.proofs.Common.{◌≡◌, ◌≤◌, ◌++◌, take, drop}
use Rattle.filter_table.specs.TableRows.{renumbered, renumbered_from, place_of_acl, acl_at_place}
use Rattle.filter_table.proofs.acls.renumber_all.Given as goal

abbrev pub invariant-loop-list : goal.invariant-loop-list
invariant-loop-list l =
    (take l.list-index l.placed ++ renumbered_from place_of_acl acl_at_place l.last l.number (drop l.list-index l.placed)
    ≡ renumbered place_of_acl acl_at_place l.fn.placed)
    × (l.number ≤ l.list-index)
