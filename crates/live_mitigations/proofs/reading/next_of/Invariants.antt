-- those of the rest are those of all
use Rattle.std.proofs.Common.{◌≡◌, drop}
use Rattle.conflict_rules.specs.LiveViews.{of_cuid}
use Rattle.live_mitigations.specs.LiveRows.{mitigations_in}
use Rattle.live_mitigations.proofs.reading.next_of.Given as goal

abbrev pub invariant-loop-at : goal.invariant-loop-at
invariant-loop-at l = of_cuid l.cuid (mitigations_in (drop l.at l.rows)) ≡ of_cuid l.cuid (mitigations_in l.rows)
