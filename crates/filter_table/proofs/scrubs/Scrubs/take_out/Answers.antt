use Rattle.std.proofs.Common.{arith, ◌≡◌, ◌<◌, length, get_or, remove, ap, sym, subst, ◌∙◌, Some, None}
use Rattle.filter_table.specs.declared.rank.Rank.{Rank}
use Rattle.filter_table.specs.Ranks.{place_of}
use Rattle.filter_table.proofs.Each.{each_at}
use Rattle.filter_table.specs.TableRows.{ScrubsValue, rank_of}
use Rattle.filter_table.specs.Rows.{gathered, mark_of, IsTied}
use Rattle.filter_table.proofs.Gathered.{length-gathered, scrub_of, turn_read, slot_there}
use Rattle.filter_table.proofs.Slots.{scrubs_value, rank_there}
use Rattle.filter_table.proofs.RowsInSlots.{ranking_value, removes_row}
use Rattle.filter_table.proofs.scrubs.Scrubs.take_out.Goals as goal

pub remove-turn-requires : goal.remove-turn-requires
remove-turn-requires c =
    let fits : c.args.at < length (gathered c.self.inside.rows.items c.self.inside.turns.items) = subst (λ (v : ScrubsValue). c.args.at < length v.placed) (sym c.self.view_is) c.requires in
    omega (arith, fits, length-gathered c.self.inside.rows.items c.self.inside.turns.items c.self.invariant.0.tied)

pub empty_slot-requires : goal.empty_slot-requires
empty_slot-requires c =
    let fits : c.args.at < length (gathered c.self.inside.rows.items c.self.inside.turns.items) = subst (λ (v : ScrubsValue). c.args.at < length v.placed) (sym c.self.view_is) c.requires in
    let within : c.args.at < length c.self.inside.turns.items = omega (arith, fits, length-gathered c.self.inside.rows.items c.self.inside.turns.items c.self.invariant.0.tied) in
    let tie : IsTied c.self.inside.rows.items c.remove-turn.result =
    subst (IsTied c.self.inside.rows.items) (sym c.remove-turn.ensures.value) (each_at (IsTied c.self.inside.rows.items) c.self.inside.turns.items c.args.at c.remove-turn.result c.self.invariant.0.tied within) in
    slot_there c.self.inside.rows.items c.remove-turn.result.slot tie.row tie.is

pub take-requires : goal.take-requires
take-requires c =
    let fits : c.args.at < length (gathered c.self.inside.rows.items c.self.inside.turns.items) = subst (λ (v : ScrubsValue). c.args.at < length v.placed) (sym c.self.view_is) c.requires in
    let within : c.args.at < length c.self.inside.turns.items = omega (arith, fits, length-gathered c.self.inside.rows.items c.self.inside.turns.items c.self.invariant.0.tied) in
    rank_there rank_of c.self.inside.room c.self.inside.ranking c.of.result (gathered c.self.inside.rows.items c.self.inside.turns.items) c.args.at (scrub_of c.remove-turn.result c.in-Some.row)
    c.self.invariant.0.ranks_are fits
    (turn_read c.self.inside.rows.items c.self.inside.turns.items c.args.at c.remove-turn.result c.in-Some.row c.self.invariant.0.tied within c.remove-turn.ensures.value (sym c.in-Some.ensures.row))
    c.of.ensures.value

pub take-requires-2 : goal.take-requires-2
take-requires-2 c =
    let fits : c.args.at < length (gathered c.self.inside.rows.items c.self.inside.turns.items) = subst (λ (v : ScrubsValue). c.args.at < length v.placed) (sym c.self.view_is) c.requires in
    let within : c.args.at < length c.self.inside.turns.items = omega (arith, fits, length-gathered c.self.inside.rows.items c.self.inside.turns.items c.self.invariant.0.tied) in
    rank_there mark_of c.self.inside.room c.self.inside.marks c.mark_of.result (gathered c.self.inside.rows.items c.self.inside.turns.items) c.args.at (scrub_of c.remove-turn.result c.in-Some.row)
    c.self.invariant.0.marks_are fits
    (turn_read c.self.inside.rows.items c.self.inside.turns.items c.args.at c.remove-turn.result c.in-Some.row c.self.invariant.0.tied within c.remove-turn.ensures.value (sym c.in-Some.ensures.row))
    c.mark_of.ensures

pub invariant_of-self : goal.invariant_of-self
invariant_of-self c =
    let fits : c.args.at < length (gathered c.self.inside.rows.items c.self.inside.turns.items) = subst (λ (v : ScrubsValue). c.args.at < length v.placed) (sym c.self.view_is) c.requires in
    let within : c.args.at < length c.self.inside.turns.items = omega (arith, fits, length-gathered c.self.inside.rows.items c.self.inside.turns.items c.self.invariant.0.tied) in
    let now = c.take.ensures ∙ ap (λ (r : Rank). ranking_value c.self.inside.ranking.room (remove c.self.inside.ranking.ranks (place_of r c.self.inside.ranking.ranks))) c.of.ensures.value in
    let marked = c.take-2.ensures ∙ ap (λ (r : Rank). ranking_value c.self.inside.marks.room (remove c.self.inside.marks.ranks (place_of r c.self.inside.marks.ranks))) c.mark_of.ensures in
    let staying = removes_row c.self.inside.room c.self.inside.rows.items c.empty_slot.new.rows.items c.self.inside.turns.items c.remove-turn.new.self.items c.self.inside.free.items
    c.push_reserved.new.self.items c.self.inside.ranking c.take.new.self c.self.inside.marks c.take-2.new.self c.args.at c.remove-turn.result c.in-Some.row c.self.invariant.0 within c.remove-turn.ensures.value
    (sym c.in-Some.ensures.row) c.push_reserved.ensures.items now marked c.empty_slot.ensures.items c.remove-turn.ensures.items in
    (staying.stand, omega arith, omega arith, c.self.invariant.3, c.self.invariant.4)

pub returns : goal.returns
returns c =
    let fits : c.args.at < length (gathered c.self.inside.rows.items c.self.inside.turns.items) = subst (λ (v : ScrubsValue). c.args.at < length v.placed) (sym c.self.view_is) c.requires in
    let within : c.args.at < length c.self.inside.turns.items = omega (arith, fits, length-gathered c.self.inside.rows.items c.self.inside.turns.items c.self.invariant.0.tied) in
    let now = c.take.ensures ∙ ap (λ (r : Rank). ranking_value c.self.inside.ranking.room (remove c.self.inside.ranking.ranks (place_of r c.self.inside.ranking.ranks))) c.of.ensures.value in
    let marked = c.take-2.ensures ∙ ap (λ (r : Rank). ranking_value c.self.inside.marks.room (remove c.self.inside.marks.ranks (place_of r c.self.inside.marks.ranks))) c.mark_of.ensures in
    let staying = removes_row c.self.inside.room c.self.inside.rows.items c.empty_slot.new.rows.items c.self.inside.turns.items c.remove-turn.new.self.items c.self.inside.free.items
    c.push_reserved.new.self.items c.self.inside.ranking c.take.new.self c.self.inside.marks c.take-2.new.self c.args.at c.remove-turn.result c.in-Some.row c.self.invariant.0 within c.remove-turn.ensures.value
    (sym c.in-Some.ensures.row) c.push_reserved.ensures.items now marked c.empty_slot.ensures.items c.remove-turn.ensures.items in
    ap (scrubs_value c.self.inside.room) staying.placed_is ∙ ap (λ (v : ScrubsValue). scrubs_value v.room (remove v.placed c.args.at)) c.self.view_is
