-- those counted and those of the rest are all
use Rattle.std.proofs.Common.{◌≡◌, ◌+◌, ◌≤◌, ◌&&◌, drop}
use Rattle.dots_history.specs.Entries.{same_client}
use Rattle.dots_history.specs.Histories.{Mitigation, tally}
use Rattle.live_mitigations.specs.Rows.{is_left}
use Rattle.live_mitigations.specs.LiveRows.{mitigations_in}
use Rattle.live_mitigations.proofs.counting.count_own_left.Given as goal

abbrev pub invariant-loop-row : goal.invariant-loop-row
invariant-loop-row l = record {
  counted : l.count + tally (λ (m : Mitigation). is_left l.entry m && same_client l.entry m.put) (mitigations_in (drop l.row-index l.rows)) ≡ tally (λ (m : Mitigation). is_left l.entry m && same_client l.entry m.put) (mitigations_in l.rows);
  few : l.count ≤ l.row-index;
}
