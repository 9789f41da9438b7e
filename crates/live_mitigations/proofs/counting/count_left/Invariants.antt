-- those counted and those of the rest are all
use Rattle.std.proofs.Common.{◌≡◌, ◌+◌, ◌≤◌, drop}
use Rattle.dots_history.specs.Histories.{tally}
use Rattle.live_mitigations.specs.Rows.{is_left}
use Rattle.live_mitigations.specs.LiveRows.{mitigations_in}
use Rattle.live_mitigations.proofs.counting.count_left.Given as goal

abbrev pub invariant-loop-row : goal.invariant-loop-row
invariant-loop-row l = record {
  counted : l.count + tally (is_left l.entry) (mitigations_in (drop l.row-index l.rows)) ≡ tally (is_left l.entry) (mitigations_in l.rows);
  few : l.count ≤ l.row-index;
}
