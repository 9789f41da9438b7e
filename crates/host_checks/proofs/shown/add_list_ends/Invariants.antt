use Rattle.std.proofs.Common.{◌≡◌, ◌++◌, map, drop}
use Rattle.host_checks.specs.Ends.{acl_value}
use Rattle.host_checks.specs.Shown.{list_ends}
use Rattle.host_checks.proofs.shown.add_list_ends.Given as goal

abbrev pub invariant-loop-list : goal.invariant-loop-list
invariant-loop-list l = record {
  added : l.ends ++ list_ends l.now (map acl_value (drop l.list-index l.lists)) ≡ l.fn.ends ++ list_ends l.now (map acl_value l.lists);
}
