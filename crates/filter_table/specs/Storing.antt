-- Rows that come at once: stored first, and then ranked.
use Rattle.std.specs.Prelude.{◌≡◌, ℕ, nat_le, List, [], ◌∷◌, ◌++◌, Option, Some, slice_set}
use Rattle.std.specs.List.{insert, prefix_len}
use Rattle.ip_scope.specs.Prefix.{IsPrefix}
use Rattle.acl_lists.specs.declared.rows.ScrubRow.{ScrubRow}
use Rattle.filter_table.specs.declared.rank.Rank.{Rank}
use Rattle.filter_table.specs.Ranks.{RankingValue, with_rank}
use Rattle.filter_table.specs.Merging.{with_ranks}
use Rattle.filter_table.specs.declared.turn.Turn.{Turn}
use Rattle.filter_table.specs.TableRows.{PlacedScrub, rank_of, AreInstalled}
use Rattle.filter_table.specs.Rows.{gathered, mark_of}
use Rattle.filter_table.specs.Slots.{StandInSlots}

-- they stand in slots, whatever room and ranks there are
pub record AreStored (rows : List (Option ScrubRow)) (turns : List Turn) (free : List ℕ) : Type 0 where
  pub room : ℕ
  pub ranking : RankingValue
  pub marks : RankingValue
  pub stand : StandInSlots room rows turns free ranking marks

-- a row put into the last free slot, and its turn behind those whose place is not greater
pub record IsStored (place : ℕ) (row : ScrubRow) (rows later : List (Option ScrubRow)) (turns more : List Turn) (free fewer : List ℕ) (ranks more_ranks marks more_marks : List Rank) : Type 0 where
  pub slot : ℕ
  pub taken : free ≡ fewer ++ slot ∷ []
  pub written : later ≡ slice_set rows slot (Some row)
  pub turn : more ≡ insert turns (prefix_len (λ (other : Turn). nat_le other.place place) turns) (record { place = place; slot = slot })
  pub whole : IsPrefix row.prefix
  pub rank : more_ranks ≡ with_rank (rank_of (record { slot = slot; place = place; row = row })) ranks
  pub mark : more_marks ≡ with_rank (mark_of (record { slot = slot; place = place; row = row })) marks

abbrev pub and_ranks : List Rank → RankingValue → RankingValue
and_ranks more ranking = record { room = ranking.room; ranks = with_ranks more ranking.ranks }

-- once the ranks and marks are put among the others, they stand in slots as rows that are put in one after the other do
pub record AreRows (room place : ℕ) (own : List ScrubRow) (rows later : List (Option ScrubRow)) (turns more : List Turn) (free fewer : List ℕ) (ranks marks : List Rank) (ranking marking : RankingValue) : Type 0 where
  pub stand : StandInSlots room later more fewer (and_ranks ranks ranking) (and_ranks marks marking)
  pub installed : AreInstalled room place own (gathered rows turns) (gathered later more)

abbrev pub BecomeRows : ℕ → List ScrubRow → List (Option ScrubRow) → List (Option ScrubRow) → List Turn → List Turn → List ℕ → List ℕ → List Rank → List Rank → Type 0
BecomeRows place own rows later turns more free fewer ranks marks =
    (room : ℕ) (ranking marking : RankingValue) → StandInSlots room rows turns free ranking marking
    → AreRows room place own rows later turns more free fewer ranks marks ranking marking
