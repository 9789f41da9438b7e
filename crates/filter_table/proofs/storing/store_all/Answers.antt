use Rattle.std.proofs.Common.{arith, ◌≡◌, ◌+◌, ◌<◌, ◌≤◌, ℕ, length, ap, ◌∙◌}
use Rattle.std.specs.Vec.Iter.{into_iter_items}
use Rattle.std.proofs.lemmas.Grind.{common_steps}
use Rattle.filter_table.proofs.Each.{none_there}
use Rattle.filter_table.specs.TableRows.{rank_of}
use Rattle.filter_table.specs.Rows.{mark_of}
use Rattle.filter_table.proofs.Stored.{still_stored, store_next, store_end, stored_free, stored_rows, stored_ranks, stored_marks}
use Rattle.filter_table.proofs.storing.store_all.Goals as goal

pub store_one-requires-clause-stand : goal.store_one-requires-clause-stand
store_one-requires-clause-stand c =
    still_stored c.args.place c.loop-row.next c.args.own.items (into_iter_items c.loop-row.row-iterator) c.args.rows.now.items c.loop-row.rows.items c.args.turns.now.items c.loop-row.turns.items
    c.args.free.now.items c.loop-row.free.items c.loop-row.ranks.ranks c.loop-row.marks.ranks c.loop-row.invariant.so_far c.requires.stand

pub store_one-requires-clause-some : goal.store_one-requires-clause-some
store_one-requires-clause-some c = omega (arith, ap length c.in-Some.ensures.steps.0, c.loop-row.invariant.enough)

pub store_one-requires-clause-room : goal.store_one-requires-clause-room
store_one-requires-clause-room c = omega (arith, c.loop-row.invariant.rows_number, c.loop-row.invariant.turns_capacity, c.requires.room)

pub store_one-requires-clause-ranks_room : goal.store_one-requires-clause-ranks_room
store_one-requires-clause-ranks_room c = omega (arith, ap length c.in-Some.ensures.steps.0, c.loop-row.invariant.ranks_fit)

pub store_one-requires-clause-marks_room : goal.store_one-requires-clause-marks_room
store_one-requires-clause-marks_room c = omega (arith, ap length c.in-Some.ensures.steps.0, c.loop-row.invariant.marks_fit)

pub loop-row-preserved : goal.loop-row-preserved
loop-row-preserved c =
    let left = ap length c.in-Some.ensures.steps.0 in
    record {
      so_far = store_next c.args.place c.loop-row.next c.in-Some.row c.args.own.items (into_iter_items c.loop-row.row-iterator) _ c.args.rows.now.items c.loop-row.rows.items
          c.store_one.new.rows.items c.args.turns.now.items c.loop-row.turns.items c.store_one.new.turns.items c.args.free.now.items c.loop-row.free.items c.store_one.new.free.items
          c.loop-row.ranks.ranks c.store_one.new.ranks.ranks c.loop-row.marks.ranks c.store_one.new.marks.ranks c.loop-row.invariant.so_far c.in-Some.ensures.steps.0 c.store_one.ensures.stored;
      enough = omega (arith, left, stored_free _ _ _ _ _ _ _ _ _ _ _ _ c.store_one.ensures.stored, c.loop-row.invariant.enough);
      places = omega (arith, left, c.loop-row.invariant.places);
      rows_number = stored_rows _ _ _ _ _ _ _ _ _ _ _ _ c.store_one.ensures.stored ∙ c.loop-row.invariant.rows_number;
      ranks_fit = omega (arith, left, stored_ranks _ _ _ _ _ _ _ _ _ _ _ _ c.store_one.ensures.stored, c.store_one.ensures.ranks_same, c.loop-row.invariant.ranks_fit);
      marks_fit = omega (arith, left, stored_marks _ _ _ _ _ _ _ _ _ _ _ _ c.store_one.ensures.stored, c.store_one.ensures.marks_same, c.loop-row.invariant.marks_fit);
      turns_capacity = c.store_one.ensures.turns_capacity ∙ c.loop-row.invariant.turns_capacity;
      free_capacity = c.store_one.ensures.free_capacity ∙ c.loop-row.invariant.free_capacity;
      ranks_same = c.store_one.ensures.ranks_same ∙ c.loop-row.invariant.ranks_same;
      marks_same = c.store_one.ensures.marks_same ∙ c.loop-row.invariant.marks_same;
    }

pub returns-clause-stored : goal.returns-clause-stored
returns-clause-stored c =
    let empty : length (into_iter_items c.loop-row.row-iterator) ≡ 0 = grind (arith, common_steps) in
    store_end c.args.place c.loop-row.next c.args.own.items (into_iter_items c.loop-row.row-iterator) c.args.rows.now.items c.loop-row.rows.items c.args.turns.now.items c.loop-row.turns.items
    c.args.free.now.items c.loop-row.free.items c.loop-row.ranks.ranks c.loop-row.marks.ranks c.loop-row.invariant.so_far (none_there _ empty)
