use Rattle.std.proofs.Common.{arith}
use Rattle.installed_filters.specs.Filters.{stays_beside}
use Rattle.installed_filters.proofs.Steps.{sweep_step, sweep_end}
use Rattle.installed_filters.proofs.filters.InstalledFilters.remove_ended.Goals as goal

pub loop-row-preserved : goal.loop-row-preserved
loop-row-preserved c =
    sweep_step
    c.args.entry.now.domain
    (stays_beside c.args.entry.now)
    c.loop-row.row-index
    c.args.rows.now
    _
    c.loop-row.self
    c.remove_if_ended.new.self
    _
    c.loop-row-test.true
    c.row-item.is
    c.remove_if_ended.ensures
    c.loop-row.invariant

pub returns : goal.returns
returns c =
    sweep_end
    c.args.entry.now.domain
    (stays_beside c.args.entry.now)
    c.loop-row.row-index
    c.args.rows.now
    c.loop-row.self
    _
    (omega (arith, c.loop-row-test.false))
    c.loop-row.invariant
