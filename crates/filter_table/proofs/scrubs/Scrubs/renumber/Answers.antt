use Rattle.std.proofs.Common.{arith, ◌≡◌, List, Option, length, map, ap, sym, subst, ◌∙◌}
use Rattle.acl_lists.specs.declared.rows.ScrubRow.{ScrubRow}
use Rattle.filter_table.specs.Ranks.{RankingValue, ranked}
use Rattle.filter_table.specs.declared.turn.Turn.{Turn}
use Rattle.filter_table.specs.TableRows.{ScrubsValue, rank_of, renumbered, place_of_scrub, scrub_at_place}
use Rattle.filter_table.specs.Rows.{gathered, place_of_turn, turn_at_place, mark_of}
use Rattle.filter_table.proofs.Gathered.{AreTied, length-gathered, tied-renumbered}
use Rattle.filter_table.proofs.Places.{length-renumbered}
use Rattle.filter_table.proofs.Slots.{scrubs_value}
use Rattle.filter_table.proofs.RowsInSlots.{ranking_value, renumbers_rows}
use Rattle.filter_table.proofs.scrubs.Scrubs.renumber.Goals as goal

pub rank_all-requires-clause-tied : goal.rank_all-requires-clause-tied
rank_all-requires-clause-tied c =
    subst (λ (rs : List (Option ScrubRow)). AreTied rs c.as_slice.result.now) (sym c.as_slice-2.ensures.value)
    (subst (AreTied c.self.inside.rows.items) (sym (c.as_slice.ensures.value ∙ c.renumber_turns.ensures.items))
    (tied-renumbered c.self.inside.rows.items c.self.inside.turns.items c.self.invariant.0.tied))

pub rank_all-requires-clause-room : goal.rank_all-requires-clause-room
rank_all-requires-clause-room c =
    let same : length c.as_slice.result.now ≡ length c.self.inside.turns.items =
    ap length (c.as_slice.ensures.value ∙ c.renumber_turns.ensures.items) ∙ length-renumbered place_of_turn turn_at_place c.self.inside.turns.items in
    omega (arith, same, c.self.invariant.0.ranks_are.room_is, c.self.invariant.0.slots_are.number, length-gathered c.self.inside.rows.items c.self.inside.turns.items c.self.invariant.0.tied)

pub rank_all-requires-clause-marks_room : goal.rank_all-requires-clause-marks_room
rank_all-requires-clause-marks_room c =
    let same : length c.as_slice.result.now ≡ length c.self.inside.turns.items =
    ap length (c.as_slice.ensures.value ∙ c.renumber_turns.ensures.items) ∙ length-renumbered place_of_turn turn_at_place c.self.inside.turns.items in
    omega (arith, same, c.self.invariant.0.marks_are.room_is, c.self.invariant.0.slots_are.number, length-gathered c.self.inside.rows.items c.self.inside.turns.items c.self.invariant.0.tied)

pub invariant_of-self : goal.invariant_of-self
invariant_of-self c =
    let now = c.rank_all.ensures.ranking
    ∙ ap (λ (rs : List (Option ScrubRow)). ranking_value c.self.inside.ranking.room (ranked (map rank_of (gathered rs c.as_slice.result.now)))) c.as_slice-2.ensures.value
    ∙ ap (λ (ts : List Turn). ranking_value c.self.inside.ranking.room (ranked (map rank_of (gathered c.self.inside.rows.items ts)))) c.as_slice.ensures.value in
    let marked = c.rank_all.ensures.marks
    ∙ ap (λ (rs : List (Option ScrubRow)). ranking_value c.self.inside.marks.room (ranked (map mark_of (gathered rs c.as_slice.result.now)))) c.as_slice-2.ensures.value
    ∙ ap (λ (ts : List Turn). ranking_value c.self.inside.marks.room (ranked (map mark_of (gathered c.self.inside.rows.items ts)))) c.as_slice.ensures.value in
    let staying = renumbers_rows c.self.inside.room c.self.inside.rows.items c.self.inside.turns.items c.renumber_turns.new.turns.items c.self.inside.free.items c.self.inside.ranking c.rank_all.new.ranking c.self.inside.marks c.rank_all.new.marks
    c.self.invariant.0 c.renumber_turns.ensures.items now marked in
    (staying.stand, omega arith, omega arith, c.self.invariant.3, c.self.invariant.4)

pub returns : goal.returns
returns c =
    let now = c.rank_all.ensures.ranking
    ∙ ap (λ (rs : List (Option ScrubRow)). ranking_value c.self.inside.ranking.room (ranked (map rank_of (gathered rs c.as_slice.result.now)))) c.as_slice-2.ensures.value
    ∙ ap (λ (ts : List Turn). ranking_value c.self.inside.ranking.room (ranked (map rank_of (gathered c.self.inside.rows.items ts)))) c.as_slice.ensures.value in
    let marked = c.rank_all.ensures.marks
    ∙ ap (λ (rs : List (Option ScrubRow)). ranking_value c.self.inside.marks.room (ranked (map mark_of (gathered rs c.as_slice.result.now)))) c.as_slice-2.ensures.value
    ∙ ap (λ (ts : List Turn). ranking_value c.self.inside.marks.room (ranked (map mark_of (gathered c.self.inside.rows.items ts)))) c.as_slice.ensures.value in
    let staying = renumbers_rows c.self.inside.room c.self.inside.rows.items c.self.inside.turns.items c.renumber_turns.new.turns.items c.self.inside.free.items c.self.inside.ranking c.rank_all.new.ranking c.self.inside.marks c.rank_all.new.marks
    c.self.invariant.0 c.renumber_turns.ensures.items now marked in
    ap (scrubs_value c.self.inside.room) staying.placed_is
    ∙ ap (λ (v : ScrubsValue). scrubs_value v.room (renumbered place_of_scrub scrub_at_place v.placed)) c.self.view_is
