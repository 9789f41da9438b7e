use Rattle.installed_filters.proofs.Places.{set_placed, list_room}
use Rattle.installed_filters.proofs.filters.InstalledFilters.set_acl.Goals as goal

pub invariant_of-self : goal.invariant_of-self
invariant_of-self c =
    set_placed
    c.fresh_place-place.result
    c.args.row
    c.fresh_place-place.new.table
    c.set_acl.new.self
    c.fresh_place-place.ensures.placed
    c.set_acl.ensures
    (list_room c.args.row c.self.inside.table c.fresh_place-place.new.table c.args.self.now c.self.view_is c.fresh_place-place.ensures.rows c.requires)
