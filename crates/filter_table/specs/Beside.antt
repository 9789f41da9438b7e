-- What stands beside ranks in order.
use Rattle.std.specs.Prelude.{◌≡◌, ℕ, List, map}
use Rattle.filter_table.specs.declared.rank.Rank.{Rank}
use Rattle.filter_table.specs.declared.level.Level.{Level}
use Rattle.filter_table.specs.Ranks.{slot_of}
use Rattle.filter_table.specs.Numbers.{low_of}
use Rattle.filter_table.specs.Levels.{levels_of}
use Rattle.filter_table.specs.RankLaws.{AreRanked}

-- the ranks are in order, and beside them stand their numbers and slots, and how many there are of each kind
pub record StandBeside (ranks : List Rank) (numbers slots : List ℕ) (levels : List Level) : Type 0 where
  pub in_order : AreRanked ranks
  pub numbers_are : numbers ≡ map low_of ranks
  pub slots_are : slots ≡ map slot_of ranks
  pub levels_are : levels ≡ levels_of ranks
