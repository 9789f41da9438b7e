use Rattle.std.proofs.Common.{◌∙◌}
use Rattle.held_resources.specs.Tables.{lost_in}
use Rattle.installed_filters.proofs.OneByOne.{more_works, more_waits}
use Rattle.installed_filters.proofs.filters.InstalledFilters.install_made.Goals as goal

pub returns-then-works : goal.returns-then-works
returns-then-works c =
    more_works
    (lost_in c.args.held.now)
    c.args.row.now
    c.args.own.items
    c.is_working-works.result
    c.domain.result
    c.bytes.result.now
    c.args.self.now
    c.install_all.new.self
    c.activate.new.self
    c.requires.made
    c.is_working-works.ensures
    c.if-works.true
    c.domain.ensures
    (c.bytes.ensures.value ∙ c.cuid.ensures)
    c.install_all.ensures
    c.activate.ensures

pub returns-else-works : goal.returns-else-works
returns-else-works c =
    more_waits
    (lost_in c.args.held.now)
    c.args.row.now
    c.args.own.items
    c.is_working-works.result
    c.args.self.now
    c.install_all.new.self
    c.requires.made
    c.is_working-works.ensures
    c.if-works.false
    c.install_all.ensures
