-- the first end so far and that of the rest is that of all
use Rattle.std.proofs.Common.{◌≡◌, ◌≤◌, min, drop}
use Rattle.live_mitigations.specs.Ends.{never, first_end}
use Rattle.live_mitigations.specs.LiveRows.{mitigations_in}
use Rattle.live_mitigations.proofs.list.first_end.Given as goal

abbrev pub invariant-loop-row : goal.invariant-loop-row
invariant-loop-row l = record {
  first : min l.first (first_end (mitigations_in (drop l.row-index l.rows))) ≡ first_end (mitigations_in l.rows);
  most : l.first ≤ never;
}
