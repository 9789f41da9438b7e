-- without the rows of those that are left to go, they are as they are to be
use Rattle.std.proofs.Common.{◌≡◌, drop}
use Rattle.live_mitigations.specs.LiveRows.{mitigations_in}
use Rattle.installed_filters.specs.Filters.{stays_beside}
use Rattle.installed_filters.proofs.Steps.{swept}
use Rattle.installed_filters.proofs.filters.InstalledFilters.remove_ended.Given as goal

abbrev pub invariant-loop-row : goal.invariant-loop-row
invariant-loop-row l = swept l.entry.domain (stays_beside l.entry) (mitigations_in (drop l.row-index l.rows)) l.self ≡ swept l.entry.domain (stays_beside l.entry) (mitigations_in l.rows) l.fn.self
