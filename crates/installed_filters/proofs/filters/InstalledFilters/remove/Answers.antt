use Rattle.installed_filters.proofs.Places.{removed_placed}
use Rattle.installed_filters.proofs.filters.InstalledFilters.remove.Goals as goal

pub invariant_of-self : goal.invariant_of-self
invariant_of-self c =
    removed_placed c.args.domain c.args.cuid.now c.args.mid c.self.inside.next c.self.inside.table c.remove.new.self c.remove.ensures c.self.invariant
