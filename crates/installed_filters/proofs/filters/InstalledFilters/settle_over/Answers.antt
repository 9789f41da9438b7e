use Rattle.std.proofs.Common.{arith}
use Rattle.held_resources.specs.Tables.{lost_in}
use Rattle.live_mitigations.specs.LiveRows.{mitigations_in}
use Rattle.installed_filters.specs.Filters.{is_over, works_at}
use Rattle.installed_filters.proofs.Steps.{settle_step, settle_end}
use Rattle.installed_filters.proofs.filters.InstalledFilters.settle_over.Goals as goal

pub loop-row-preserved : goal.loop-row-preserved
loop-row-preserved c =
    settle_step
    c.args.domain
    (is_over c.args.now)
    (works_at (lost_in c.args.held.now) c.args.now)
    (mitigations_in c.args.rows.now)
    c.loop-row.row-index
    c.args.rows.now
    _
    c.loop-row.self
    c.settle_if_over.new.self
    _
    c.loop-row-test.true
    c.row-item.is
    c.settle_if_over.ensures
    c.loop-row.invariant

pub returns : goal.returns
returns c =
    settle_end
    c.args.domain
    (is_over c.args.now)
    (works_at (lost_in c.args.held.now) c.args.now)
    (mitigations_in c.args.rows.now)
    c.loop-row.row-index
    c.args.rows.now
    c.loop-row.self
    _
    (omega (arith, c.loop-row-test.false))
    c.loop-row.invariant
