use Rattle.installed_filters.proofs.Places.{woken_placed}
use Rattle.installed_filters.proofs.filters.InstalledFilters.wake.Goals as goal

pub invariant_of-self : goal.invariant_of-self
invariant_of-self c =
    woken_placed
    c.args.domain
    c.args.cuid.now
    c.args.mid
    c.args.active
    c.self.inside.next
    c.self.inside.table
    c.wake.new.self
    c.wake.ensures
    c.self.invariant
