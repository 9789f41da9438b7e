-- with the rows made active or not of those that are left, they are as they are to be
use Rattle.std.proofs.Common.{◌≡◌, drop}
use Rattle.live_mitigations.specs.LiveRows.{mitigations_in}
use Rattle.installed_filters.specs.Filters.{is_waiting_for}
use Rattle.installed_filters.proofs.Steps.{waked}
use Rattle.installed_filters.proofs.filters.InstalledFilters.wake_waiting.Given as goal

abbrev pub invariant-loop-row : goal.invariant-loop-row
invariant-loop-row l =
    waked l.domain (is_waiting_for l.peer) l.active (mitigations_in (drop l.row-index l.rows)) l.self ≡ waked l.domain (is_waiting_for l.peer) l.active (mitigations_in l.rows) l.fn.self
