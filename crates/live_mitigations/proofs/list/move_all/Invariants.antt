-- the rows before the one at hand are moved
use Rattle.std.proofs.Common.{◌≡◌, ◌++◌, map, take, drop}
use Rattle.live_mitigations.specs.LiveRows.{row_moved}
use Rattle.live_mitigations.proofs.list.move_all.Given as goal

abbrev pub invariant-loop-row : goal.invariant-loop-row
invariant-loop-row l =
    l.rows ≡ map (row_moved (record { entry = l.entry; slot = l.slot })) (take l.row-index l.fn.rows) ++ drop l.row-index l.fn.rows
