-- settled by those that are left, they are as they are to be
use Rattle.std.proofs.Common.{◌≡◌, drop}
use Rattle.held_resources.specs.Tables.{lost_in}
use Rattle.live_mitigations.specs.LiveRows.{mitigations_in}
use Rattle.installed_filters.specs.Filters.{is_waiting_for, is_working}
use Rattle.installed_filters.proofs.Steps.{settled}
use Rattle.installed_filters.proofs.filters.InstalledFilters.settle_waiting.Given as goal

abbrev pub invariant-loop-row : goal.invariant-loop-row
invariant-loop-row l =
    settled l.domain (is_waiting_for l.peer) (is_working (lost_in l.held)) (mitigations_in l.rows) (mitigations_in (drop l.row-index l.rows)) l.self
    ≡ settled l.domain (is_waiting_for l.peer) (is_working (lost_in l.held)) (mitigations_in l.rows) (mitigations_in l.rows) l.fn.self
