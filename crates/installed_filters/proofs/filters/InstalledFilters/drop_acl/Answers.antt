use Rattle.installed_filters.proofs.Places.{dropped_placed}
use Rattle.installed_filters.proofs.filters.InstalledFilters.drop_acl.Goals as goal

pub invariant_of-self : goal.invariant_of-self
invariant_of-self c =
    dropped_placed c.args.domain c.args.cuid.now c.args.name.now c.self.inside.next c.self.inside.table c.drop_acl.new.self c.drop_acl.ensures c.self.invariant
