-- Rows that come at once: stored one after the other, and then ranked.
use Rattle.std.proofs.Common.{◌≡◌, ℕ, ◌+◌, ◌<◌, ◌≤◌, List, [], ◌∷◌, ◌++◌, length, set, refl, sym, ap, subst, ◌∙◌, arith, length-set, length-append, Option, Some}
use Rattle.std.specs.List.{prefix_len}
use Rattle.std.specs.Prelude.{nat_le}
use Rattle.acl_lists.specs.declared.rows.ScrubRow.{ScrubRow}
use Rattle.filter_table.specs.declared.rank.Rank.{Rank}
use Rattle.filter_table.specs.Ranks.{RankingValue, with_rank}
use Rattle.filter_table.specs.Merging.{with_ranks}
use Rattle.filter_table.proofs.Merged.{with_nothing, length-all}
use Rattle.filter_table.specs.declared.turn.Turn.{Turn}
use Rattle.filter_table.specs.TableRows.{PlacedScrub, rank_of, AreInstalled}
use Rattle.filter_table.specs.Rows.{gathered, mark_of}
use Rattle.filter_table.specs.Slots.{RanksAre, StandInSlots}
use Rattle.filter_table.specs.Storing.{AreStored, IsStored, and_ranks, AreRows, BecomeRows}
use Rattle.filter_table.proofs.Gathered.{length-gathered}
use Rattle.filter_table.proofs.Slots.{length-ranks}
use Rattle.filter_table.proofs.RowsInSlots.{installs_row}

abbrev pub scrub_value : ℕ → ℕ → ScrubRow → PlacedScrub
scrub_value slot place row = record { slot = slot; place = place; row = row }

-- ---- the state of the pass

pub record StandSoFar (room first place : ℕ) (own left : List ScrubRow) (rows later : List (Option ScrubRow)) (turns more : List Turn) (fewer : List ℕ) (ranks marks : List Rank) (ranking marking : RankingValue) : Type 0 where
  pub stand : StandInSlots room later more fewer (and_ranks ranks ranking) (and_ranks marks marking)
  pub installed : (last : List PlacedScrub) → AreInstalled room place left (gathered later more) last → AreInstalled room first own (gathered rows turns) last

abbrev pub SoFar : ℕ → ℕ → List ScrubRow → List ScrubRow → List (Option ScrubRow) → List (Option ScrubRow) → List Turn → List Turn → List ℕ → List ℕ → List Rank → List Rank → Type 0
SoFar first place own left rows later turns more free fewer ranks marks =
    (room : ℕ) (ranking marking : RankingValue) → StandInSlots room rows turns free ranking marking
    → StandSoFar room first place own left rows later turns more fewer ranks marks ranking marking

pub store_start : (place : ℕ) (own : List ScrubRow) (rows : List (Option ScrubRow)) (turns : List Turn) (free : List ℕ) (ranks marks : List Rank) → ranks ≡ [] → marks ≡ []
    → SoFar place place own own rows rows turns turns free free ranks marks
store_start place own rows turns free ranks marks none no_marks = λ room ranking marking stand.
    subst (λ rs. StandSoFar room place place own own rows rows turns turns free rs marks ranking marking) (sym none)
    (subst (λ ms. StandSoFar room place place own own rows rows turns turns free [] ms ranking marking) (sym no_marks)
    (record { stand = stand; installed = λ last all. all }))

joined : (of : PlacedScrub → Rank) (scrub : PlacedScrub) (ranks more : List Rank) (ranking : RankingValue) → more ≡ with_rank (of scrub) ranks
    → and_ranks more ranking ≡ record { room = ranking.room; ranks = with_rank (of scrub) (with_ranks ranks ranking.ranks) }
joined of scrub ranks more ranking is =
    ap (λ rs. and_ranks rs ranking) is ∙ ap (λ rs. record { room = ranking.room; ranks = rs }) (with_nothing ranks (of scrub) ranking.ranks)

pub store_next : (first place : ℕ) (row : ScrubRow) (own left behind : List ScrubRow) (rows later last : List (Option ScrubRow)) (turns more most : List Turn) (free fewer least : List ℕ) (ranks new_ranks marks new_marks : List Rank)
    → SoFar first place own left rows later turns more free fewer ranks marks → left ≡ row ∷ behind
    → IsStored place row later last more most fewer least ranks new_ranks marks new_marks
    → SoFar first (place + 1) own behind rows last turns most free least new_ranks new_marks
store_next first place row own left behind rows later last turns more most free fewer least ranks new_ranks marks new_marks so_far left_is stored = λ room ranking marking stand.
    let now = so_far room ranking marking stand in
    let at : ℕ = prefix_len (λ (other : Turn). nat_le other.place place) more in
    let step = installs_row room later last more most fewer least (and_ranks ranks ranking) (and_ranks new_ranks ranking) (and_ranks marks marking) (and_ranks new_marks marking)
    place stored.slot (prefix_len (λ (other : Turn). nat_le other.place place) more) row now.stand stored.taken stored.whole refl
    (joined rank_of (scrub_value stored.slot place row) ranks new_ranks ranking stored.rank) (joined mark_of (scrub_value stored.slot place row) marks new_marks marking stored.mark)
    stored.written stored.turn in
    record {
      stand = step.stand;
      installed = λ end all.
          now.installed end
          (subst (λ ls. AreInstalled room place ls (gathered later more) end) (sym left_is)
          (stored.slot, step.slot_below, step.slot_free, subst (λ hs. AreInstalled room (place + 1) behind hs end) step.placed_is all));
    }

pub store_end : (first place : ℕ) (own left : List ScrubRow) (rows later : List (Option ScrubRow)) (turns more : List Turn) (free fewer : List ℕ) (ranks marks : List Rank)
    → SoFar first place own left rows later turns more free fewer ranks marks → left ≡ []
    → BecomeRows first own rows later turns more free fewer ranks marks
store_end first place own left rows later turns more free fewer ranks marks so_far none = λ room ranking marking stand.
    let now = so_far room ranking marking stand in
    record {
      stand = now.stand;
      installed = now.installed (gathered later more) (subst (λ ls. AreInstalled room place ls (gathered later more) (gathered later more)) (sym none) refl);
    }

-- what is stored is stored after each of them
pub still_stored : (first place : ℕ) (own left : List ScrubRow) (rows later : List (Option ScrubRow)) (turns more : List Turn) (free fewer : List ℕ) (ranks marks : List Rank)
    → SoFar first place own left rows later turns more free fewer ranks marks → AreStored rows turns free → AreStored later more fewer
still_stored first place own left rows later turns more free fewer ranks marks so_far stored = record {
  room = stored.room;
  ranking = and_ranks ranks stored.ranking;
  marks = and_ranks marks stored.marks;
  stand = (so_far stored.room stored.ranking stored.marks stored.stand).stand;
}

-- ---- room

pub turn_room : (rows : List (Option ScrubRow)) (turns : List Turn) (free : List ℕ) → AreStored rows turns free → length free + length turns ≡ length rows
turn_room rows turns free stored =
    omega (arith, stored.stand.rows_number, stored.stand.slots_are.number, length-gathered rows turns stored.stand.tied)

pub ranks_fit : (of : PlacedScrub → Rank) (ranking : RankingValue) (room : ℕ) (more : List Rank) (placed : List PlacedScrub) → RanksAre of (and_ranks more ranking) room placed → length placed ≤ room
    → length ranking.ranks + length more ≤ ranking.room
ranks_fit of ranking room more placed are few =
    omega (arith, length-ranks of (and_ranks more ranking) room placed are, length-all more ranking.ranks, are.room_is, few)

-- ---- numbers after a step

pub stored_free : (place : ℕ) (row : ScrubRow) (rows later : List (Option ScrubRow)) (turns more : List Turn) (free fewer : List ℕ) (ranks new_ranks marks new_marks : List Rank)
    → IsStored place row rows later turns more free fewer ranks new_ranks marks new_marks → length free ≡ length fewer + 1
stored_free place row rows later turns more free fewer ranks new_ranks marks new_marks stored = omega (arith, ap length stored.taken, length-append fewer (stored.slot ∷ []))

pub stored_rows : (place : ℕ) (row : ScrubRow) (rows later : List (Option ScrubRow)) (turns more : List Turn) (free fewer : List ℕ) (ranks new_ranks marks new_marks : List Rank)
    → IsStored place row rows later turns more free fewer ranks new_ranks marks new_marks → length later ≡ length rows
stored_rows place row rows later turns more free fewer ranks new_ranks marks new_marks stored = ap length stored.written ∙ length-set rows stored.slot (Some row)

longer : (of : PlacedScrub → Rank) (scrub : PlacedScrub) (ranks more : List Rank) → more ≡ with_rank (of scrub) ranks → length more ≡ length ranks + 1
longer of scrub ranks more is = omega (arith, ap length is, length-all (of scrub ∷ []) ranks)

pub stored_ranks : (place : ℕ) (row : ScrubRow) (rows later : List (Option ScrubRow)) (turns more : List Turn) (free fewer : List ℕ) (ranks new_ranks marks new_marks : List Rank)
    → IsStored place row rows later turns more free fewer ranks new_ranks marks new_marks → length new_ranks ≡ length ranks + 1
stored_ranks place row rows later turns more free fewer ranks new_ranks marks new_marks stored = longer rank_of (scrub_value stored.slot place row) ranks new_ranks stored.rank

pub stored_marks : (place : ℕ) (row : ScrubRow) (rows later : List (Option ScrubRow)) (turns more : List Turn) (free fewer : List ℕ) (ranks new_ranks marks new_marks : List Rank)
    → IsStored place row rows later turns more free fewer ranks new_ranks marks new_marks → length new_marks ≡ length marks + 1
stored_marks place row rows later turns more free fewer ranks new_ranks marks new_marks stored = longer mark_of (scrub_value stored.slot place row) marks new_marks stored.mark

-- ---- all of them ranked

pub ranked_at_once : (room place : ℕ) (own : List ScrubRow) (rows later : List (Option ScrubRow)) (turns more : List Turn) (free fewer : List ℕ) (ranks marks : List Rank) (ranking after marking more_marks : RankingValue)
    → AreRows room place own rows later turns more free fewer ranks marks ranking marking → after ≡ and_ranks ranks ranking → more_marks ≡ and_ranks marks marking
    → StandInSlots room later more fewer after more_marks
ranked_at_once room place own rows later turns more free fewer ranks marks ranking after marking more_marks put now marked =
    subst (λ (r : RankingValue). StandInSlots room later more fewer r more_marks) (sym now)
    (subst (λ (m : RankingValue). StandInSlots room later more fewer (and_ranks ranks ranking) m) (sym marked) put.stand)

pub few_placed : (room : ℕ) (rows : List (Option ScrubRow)) (turns : List Turn) (free : List ℕ) (ranking marks : RankingValue) → StandInSlots room rows turns free ranking marks → length (gathered rows turns) ≤ room
few_placed room rows turns free ranking marks stand = omega (arith, stand.slots_are.number)
