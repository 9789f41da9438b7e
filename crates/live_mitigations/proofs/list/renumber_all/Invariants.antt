-- those before the one at hand have their new numbers
use Rattle.std.proofs.Common.{◌≡◌, ◌++◌, map, take, drop}
use Rattle.live_mitigations.specs.Numbers.{renumbered}
use Rattle.live_mitigations.specs.LiveRows.{mitigations_in, slots_in}
use Rattle.live_mitigations.proofs.list.renumber_all.Given as goal

abbrev pub invariant-loop-row : goal.invariant-loop-row
invariant-loop-row l = record {
  mitigations : mitigations_in l.rows ≡ mitigations_in l.fn.rows;
  slots : slots_in l.rows ≡ map (renumbered l.keep) (take l.row-index (slots_in l.fn.rows)) ++ drop l.row-index (slots_in l.fn.rows);
}
