use Rattle.std.proofs.Common.{◌≡◌, ◌++◌, drop, filter, flat_map}
use Rattle.ip_scope.specs.Family.{same_family}
use Rattle.dots_machine.specs.Report.{acl_line}
use Rattle.host_checks.proofs.lists.add_for_domain.Given as goal

abbrev pub invariant-loop-prefix : goal.invariant-loop-prefix
invariant-loop-prefix l = record {
  added : l.text.items ++ flat_map (acl_line l.fn.settings l.fn.row l.fn.ace) (filter (λ prefix. same_family prefix.family l.fn.row.acl.family) (drop l.prefix-index l.prefixes))
      ≡ l.fn.text.items ++ flat_map (acl_line l.fn.settings l.fn.row l.fn.ace) (filter (λ prefix. same_family prefix.family l.fn.row.acl.family) l.prefixes);
}
