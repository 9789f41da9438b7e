-- Which slots are free, and which have a row.
use Rattle.std.specs.Prelude.{◌≡◌, ℕ, ◌+◌, ◌==◌, nat_lt, if◌then◌else◌, List, length, map, Option}
use Rattle.std.specs.List.{count_by, AllByRecursion}
use Rattle.acl_lists.specs.declared.rows.ScrubRow.{ScrubRow}
use Rattle.filter_table.specs.declared.rank.Rank.{Rank}
use Rattle.filter_table.specs.Ranks.{RankingValue, ranked}
use Rattle.filter_table.specs.declared.turn.Turn.{Turn}
use Rattle.filter_table.specs.TableRows.{PlacedScrub, rank_of}
use Rattle.filter_table.specs.Laws.{AreInOrder}
use Rattle.filter_table.specs.Rows.{gathered, place_of_turn, mark_of, IsTied}

-- each slot below the room is free or has one row, and there are no others
pub record HasEachSlot (room : ℕ) (free : List ℕ) (placed : List PlacedScrub) : Type 0 where
  pub once : (slot : ℕ) → count_by (λ other. other == slot) free + count_by (λ (scrub : PlacedScrub). scrub.slot == slot) placed
      ≡ (if nat_lt slot room then 1 else 0)
  pub number : length free + length placed ≡ room

-- the ranks are those that the rows have by this order
pub record RanksAre (of : PlacedScrub → Rank) (ranking : RankingValue) (room : ℕ) (placed : List PlacedScrub) : Type 0 where
  pub in_order : ranking.ranks ≡ ranked (map of placed)
  pub room_is : ranking.room ≡ room

-- the turns are in order of place, each has a row, and the ranks and the free slots are those of these rows
pub record StandInSlots (room : ℕ) (rows : List (Option ScrubRow)) (turns : List Turn) (free : List ℕ) (ranking marks : RankingValue) : Type 0 where
  pub rows_number : length rows ≡ room
  pub tied : AllByRecursion (IsTied rows) turns
  pub in_order : AreInOrder place_of_turn turns
  pub ranks_are : RanksAre rank_of ranking room (gathered rows turns)
  pub marks_are : RanksAre mark_of marks room (gathered rows turns)
  pub slots_are : HasEachSlot room free (gathered rows turns)
