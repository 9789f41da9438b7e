-- the turns before the one at hand have their numbers, and those behind it are still to get theirs
use Rattle.std.proofs.Common.{◌≡◌, ◌≤◌, ◌++◌, take, drop}
use Rattle.filter_table.specs.TableRows.{renumbered, renumbered_from}
use Rattle.filter_table.specs.Rows.{place_of_turn, turn_at_place}
use Rattle.filter_table.proofs.scrubs.renumber_all.Given as goal

abbrev pub invariant-loop-turn : goal.invariant-loop-turn
invariant-loop-turn l =
    (take l.turn-index l.turns ++ renumbered_from place_of_turn turn_at_place l.last l.number (drop l.turn-index l.turns)
    ≡ renumbered place_of_turn turn_at_place l.fn.turns)
    × (l.number ≤ l.turn-index)
