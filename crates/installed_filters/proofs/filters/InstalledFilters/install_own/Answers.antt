use Rattle.std.proofs.Common.{sym, ◌∙◌}
use Rattle.held_resources.specs.Tables.{lost_in}
use Rattle.installed_filters.proofs.Keys.{own_made}
use Rattle.installed_filters.proofs.filters.InstalledFilters.install_own.Goals as goal

pub returns-then-is_live : goal.returns-then-is_live
returns-then-is_live c =
    own_made
    (lost_in c.args.held.now)
    c.args.entry.now
    c.args.own.items
    c.works.result
    c.args.self.now
    c.install_all.new.self
    c.requires.staged
    (sym c.is_live.ensures ∙ c.if-is_live.true)
    c.works.ensures
    c.install_all.ensures
