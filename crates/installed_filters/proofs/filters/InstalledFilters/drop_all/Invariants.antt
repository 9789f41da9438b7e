-- without the lists that are left to go, they are as they are to be
use Rattle.std.proofs.Common.{◌≡◌, drop}
use Rattle.installed_filters.proofs.Steps.{dropped}
use Rattle.installed_filters.proofs.filters.InstalledFilters.drop_all.Given as goal

abbrev pub invariant-loop-acl : goal.invariant-loop-acl
invariant-loop-acl l = dropped l.domain l.cuid (drop l.acl-index l.acls) l.self ≡ dropped l.domain l.cuid l.acls l.fn.self
