use Rattle.installed_filters.proofs.Places.{anew_placed}
use Rattle.installed_filters.proofs.placing.fresh_place.Goals as goal

pub returns-clause-placed : goal.returns-clause-placed
returns-clause-placed c =
    anew_placed
    c.args.next
    c.renumber.result
    c.args.table.now
    c.renumber.new.self
    c.renumber.ensures.value
    c.requires
    c.renumber.ensures.above_scrubs
    c.renumber.ensures.above_acls
