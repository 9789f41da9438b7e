use Rattle.installed_filters.proofs.Places.{activated_placed}
use Rattle.installed_filters.proofs.filters.InstalledFilters.activate.Goals as goal

pub invariant_of-self : goal.invariant_of-self
invariant_of-self c =
    activated_placed c.args.domain c.args.cuid.now c.args.active c.self.inside.next c.self.inside.table c.activate.new.self c.activate.ensures c.self.invariant
