use Rattle.std.proofs.Common.{arith}
use Rattle.installed_filters.specs.Filters.{is_waiting_for}
use Rattle.installed_filters.proofs.Steps.{wake_step, wake_end}
use Rattle.installed_filters.proofs.filters.InstalledFilters.wake_waiting.Goals as goal

pub loop-row-preserved : goal.loop-row-preserved
loop-row-preserved c =
    wake_step
    c.args.domain
    (is_waiting_for c.args.peer)
    c.args.active
    c.loop-row.row-index
    c.args.rows.now
    _
    c.loop-row.self
    c.wake_if_waiting.new.self
    _
    c.loop-row-test.true
    c.row-item.is
    c.wake_if_waiting.ensures
    c.loop-row.invariant

pub returns : goal.returns
returns c =
    wake_end
    c.args.domain
    (is_waiting_for c.args.peer)
    c.args.active
    c.loop-row.row-index
    c.args.rows.now
    c.loop-row.self
    _
    (omega (arith, c.loop-row-test.false))
    c.loop-row.invariant
