use Rattle.std.proofs.Common.{arith, ◌≡◌, ◌<◌, nat_le, length, ap, sym, subst, ◌∙◌, None}
use Rattle.std.specs.List.{insert, prefix_len}
use Rattle.filter_table.specs.declared.rank.Rank.{Rank}
use Rattle.filter_table.specs.Ranks.{with_rank}
use Rattle.filter_table.specs.declared.turn.Turn.{Turn}
use Rattle.filter_table.specs.TableRows.{ScrubsValue, scrub_in, with_scrub, rank_of}
use Rattle.filter_table.specs.Rows.{gathered, mark_of}
use Rattle.filter_table.proofs.Gathered.{length-gathered}
use Rattle.filter_table.proofs.Slots.{length-ranks, slot_within, scrubs_value}
use Rattle.filter_table.proofs.RowsInSlots.{ranking_value, installs_row}
use Rattle.filter_table.proofs.scrubs.Scrubs.install.Goals as goal

pub put-requires : goal.put-requires
put-requires c =
    let fits : length (gathered c.self.inside.rows.items c.self.inside.turns.items) < c.self.inside.room = subst (λ (v : ScrubsValue). length v.placed < v.room) (sym c.self.view_is) c.requires in
    omega (arith, fits, length-ranks rank_of c.self.inside.ranking c.self.inside.room (gathered c.self.inside.rows.items c.self.inside.turns.items) c.self.invariant.0.ranks_are, c.self.invariant.0.ranks_are.room_is)

pub put-requires-2 : goal.put-requires-2
put-requires-2 c =
    let fits : length (gathered c.self.inside.rows.items c.self.inside.turns.items) < c.self.inside.room = subst (λ (v : ScrubsValue). length v.placed < v.room) (sym c.self.view_is) c.requires in
    omega (arith, fits, length-ranks mark_of c.self.inside.marks c.self.inside.room (gathered c.self.inside.rows.items c.self.inside.turns.items) c.self.invariant.0.marks_are, c.self.invariant.0.marks_are.room_is)

pub put_turn-requires-clause-room : goal.put_turn-requires-clause-room
put_turn-requires-clause-room c =
    let fits : length (gathered c.self.inside.rows.items c.self.inside.turns.items) < c.self.inside.room = subst (λ (v : ScrubsValue). length v.placed < v.room) (sym c.self.view_is) c.requires in
    omega (arith, fits, length-gathered c.self.inside.rows.items c.self.inside.turns.items c.self.invariant.0.tied, c.self.invariant.1)

pub put_turn-requires-clause-within : goal.put_turn-requires-clause-within
put_turn-requires-clause-within c = omega (arith, c.place_after-at.ensures.within, ap length c.as_slice.ensures.value)

pub fill_slot-requires : goal.fill_slot-requires
fill_slot-requires c =
    let low : c.in-Some.slot < c.self.inside.room = slot_within _ _ _ _ _ c.in-Some.ensures.items c.self.invariant.0.slots_are in
    omega (arith, low, c.self.invariant.0.rows_number)

pub invariant_of-self : goal.invariant_of-self
invariant_of-self c =
    let here = c.place_after-at.ensures.value ∙ ap (prefix_len (λ (t : Turn). nat_le t.place c.args.place)) c.as_slice.ensures.value in
    let now = c.put.ensures ∙ ap (λ (r : Rank). ranking_value c.self.inside.ranking.room (with_rank r c.self.inside.ranking.ranks)) c.of.ensures.value in
    let marked = c.put-2.ensures ∙ ap (λ (r : Rank). ranking_value c.self.inside.marks.room (with_rank r c.self.inside.marks.ranks)) c.mark_of.ensures in
    let staying = installs_row c.self.inside.room c.self.inside.rows.items c.fill_slot.new.rows.items c.self.inside.turns.items c.put_turn.new.turns.items
    c.self.inside.free.items c.pop.new.self.items c.self.inside.ranking c.put.new.self c.self.inside.marks c.put-2.new.self c.args.place c.in-Some.slot c.place_after-at.result c.args.row
    c.self.invariant.0 c.in-Some.ensures.items c.of.ensures.valid here now marked c.fill_slot.ensures c.put_turn.ensures.items in
    (staying.stand, omega arith, omega arith, c.self.invariant.3, c.self.invariant.4)

pub returns : goal.returns
returns c =
    let here = c.place_after-at.ensures.value ∙ ap (prefix_len (λ (t : Turn). nat_le t.place c.args.place)) c.as_slice.ensures.value in
    let now = c.put.ensures ∙ ap (λ (r : Rank). ranking_value c.self.inside.ranking.room (with_rank r c.self.inside.ranking.ranks)) c.of.ensures.value in
    let marked = c.put-2.ensures ∙ ap (λ (r : Rank). ranking_value c.self.inside.marks.room (with_rank r c.self.inside.marks.ranks)) c.mark_of.ensures in
    let staying = installs_row c.self.inside.room c.self.inside.rows.items c.fill_slot.new.rows.items c.self.inside.turns.items c.put_turn.new.turns.items
    c.self.inside.free.items c.pop.new.self.items c.self.inside.ranking c.put.new.self c.self.inside.marks c.put-2.new.self c.args.place c.in-Some.slot c.place_after-at.result c.args.row
    c.self.invariant.0 c.in-Some.ensures.items c.of.ensures.valid here now marked c.fill_slot.ensures c.put_turn.ensures.items in (
      c.in-Some.slot,
      subst (λ (v : ScrubsValue). c.in-Some.slot < v.room) c.self.view_is staying.slot_below,
      subst (λ (v : ScrubsValue). scrub_in c.in-Some.slot v.placed ≡ None) c.self.view_is staying.slot_free,
      ap (scrubs_value c.self.inside.room) staying.placed_is
          ∙ ap (λ (v : ScrubsValue). scrubs_value v.room (with_scrub (record { slot = c.in-Some.slot; place = c.args.place; row = c.args.row }) v.placed)) c.self.view_is,
    )
