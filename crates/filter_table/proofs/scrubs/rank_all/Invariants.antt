-- the rows of the turns before the one at hand are ranked
use Rattle.std.proofs.Common.{◌≡◌, map, take}
use Rattle.filter_table.specs.Ranks.{ranked}
use Rattle.filter_table.specs.TableRows.{rank_of}
use Rattle.filter_table.specs.Rows.{gathered, mark_of}
use Rattle.filter_table.proofs.RowsInSlots.{ranking_value}
use Rattle.filter_table.proofs.scrubs.rank_all.Given as goal

abbrev pub invariant-loop-turn : goal.invariant-loop-turn
invariant-loop-turn l = record {
  by_prefix : l.ranking ≡ ranking_value l.fn.ranking.room (ranked (map rank_of (gathered l.rows (take l.turn-index l.turns))));
  by_mitigation : l.marks ≡ ranking_value l.fn.marks.room (ranked (map mark_of (gathered l.rows (take l.turn-index l.turns))));
}
