use Rattle.std.proofs.Common.{arith, ◌≡◌, length, map, take, ap, sym, ◌∙◌, add-one, ℕ}
use Rattle.filter_table.specs.declared.rank.Rank.{Rank}
use Rattle.filter_table.specs.Ranks.{RankingValue, ranked, with_rank}
use Rattle.filter_table.specs.TableRows.{rank_of}
use Rattle.filter_table.specs.Rows.{gathered, mark_of}
use Rattle.filter_table.proofs.RowsInSlots.{ranking_value, taken_number, ranked_next}
use Rattle.filter_table.proofs.scrubs.rank_all.Goals as goal

pub put-requires : goal.put-requires
put-requires c =
    let most : length (ranked (map rank_of (gathered c.args.rows.now (take c.loop-turn.turn-index c.args.turns.now)))) ≡ c.loop-turn.turn-index = taken_number rank_of c.args.rows.now c.args.turns.now c.loop-turn.turn-index c.requires.tied (omega arith) in
    let ranks : length c.loop-turn.ranking.ranks ≡ length (ranked (map rank_of (gathered c.args.rows.now (take c.loop-turn.turn-index c.args.turns.now)))) = ap (λ (r : RankingValue). length r.ranks) c.loop-turn.invariant.by_prefix in
    let room : c.loop-turn.ranking.room ≡ c.args.ranking.now.room = ap (λ (r : RankingValue). r.room) c.loop-turn.invariant.by_prefix in
    omega (arith, most, ranks, room, c.loop-turn-test.true, c.requires.room)

pub put-requires-in-loop-turn : goal.put-requires-in-loop-turn
put-requires-in-loop-turn c =
    let most : length (ranked (map mark_of (gathered c.args.rows.now (take c.loop-turn.turn-index c.args.turns.now)))) ≡ c.loop-turn.turn-index = taken_number mark_of c.args.rows.now c.args.turns.now c.loop-turn.turn-index c.requires.tied (omega arith) in
    let ranks : length c.loop-turn.marks.ranks ≡ length (ranked (map mark_of (gathered c.args.rows.now (take c.loop-turn.turn-index c.args.turns.now)))) = ap (λ (r : RankingValue). length r.ranks) c.loop-turn.invariant.by_mitigation in
    let room : c.loop-turn.marks.room ≡ c.args.marks.now.room = ap (λ (r : RankingValue). r.room) c.loop-turn.invariant.by_mitigation in
    omega (arith, most, ranks, room, c.loop-turn-test.true, c.requires.marks_room)

pub loop-turn-preserved : goal.loop-turn-preserved
loop-turn-preserved c = record {
  by_prefix = c.put.ensures
      ∙ ap (λ (r : RankingValue). ranking_value r.room (with_rank c.of.result r.ranks)) c.loop-turn.invariant.by_prefix
      ∙ ap (λ (r : Rank). ranking_value c.args.ranking.now.room (with_rank r (ranked (map rank_of (gathered c.args.rows.now (take c.loop-turn.turn-index c.args.turns.now)))))) c.of.ensures.value
      ∙ ap (ranking_value c.args.ranking.now.room)
      (ranked_next rank_of c.args.rows.now c.args.turns.now c.loop-turn.turn-index (record { place = 0; slot = 0 }) c.in-Some.row.now c.requires.tied c.loop-turn-test.true (sym c.in-Some.ensures))
      ∙ ap (λ (n : ℕ). ranking_value c.args.ranking.now.room (ranked (map rank_of (gathered c.args.rows.now (take n c.args.turns.now))))) (sym (add-one c.loop-turn.turn-index));
  by_mitigation = c.put-in-loop-turn.ensures
      ∙ ap (λ (r : RankingValue). ranking_value r.room (with_rank c.mark_of.result r.ranks)) c.loop-turn.invariant.by_mitigation
      ∙ ap (λ (r : Rank). ranking_value c.args.marks.now.room (with_rank r (ranked (map mark_of (gathered c.args.rows.now (take c.loop-turn.turn-index c.args.turns.now)))))) c.mark_of.ensures
      ∙ ap (ranking_value c.args.marks.now.room)
      (ranked_next mark_of c.args.rows.now c.args.turns.now c.loop-turn.turn-index (record { place = 0; slot = 0 }) c.in-Some.row.now c.requires.tied c.loop-turn-test.true (sym c.in-Some.ensures))
      ∙ ap (λ (n : ℕ). ranking_value c.args.marks.now.room (ranked (map mark_of (gathered c.args.rows.now (take n c.args.turns.now))))) (sym (add-one c.loop-turn.turn-index));
}
