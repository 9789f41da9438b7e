use Rattle.std.proofs.Common.{◌≡◌, List, Option, Some, None, map, subst, sym, ap, ◌∙◌}
use Rattle.std.specs.List.{find, position}
use Rattle.std.specs.Option.{IfSome}
use Rattle.acl_lists.specs.declared.rows.ScrubRow.{ScrubRow}
use Rattle.filter_table.specs.declared.rank.Rank.{Rank}
use Rattle.filter_table.specs.Ranks.{ranked}
use Rattle.filter_table.specs.TableRows.{ScrubsValue, without_mitigation}
use Rattle.filter_table.specs.Laws.{AreInOrder}
use Rattle.filter_table.specs.Rows.{gathered, place_of_turn, slot_is_of, mark_of, marks_of, is_turn}
use Rattle.filter_table.proofs.Gathered.{are_stored}
use Rattle.filter_table.proofs.Found.{GoesAt, none_found, found_at, found_anywhere}
use Rattle.filter_table.proofs.scrubs.Scrubs.position_of.Goals as goal

pub returns-in_err-mark-clause-none : goal.returns-in_err-mark-clause-none
returns-in_err-mark-clause-none c =
    let marked : c.marks_of-marks.result.now ≡ marks_of c.args.domain c.args.mid (ranked (map mark_of (gathered c.self.inside.rows.items c.self.inside.turns.items))) =
    c.marks_of-marks.ensures ∙ ap (marks_of c.args.domain c.args.mid) c.self.invariant.0.marks_are.in_order in
    let none : find (λ (r : Rank). slot_is_of c.args.domain c.args.cuid.now c.args.mid c.self.inside.rows.items r.slot) c.marks_of-marks.result.now ≡ None =
    ap (λ (rs : List (Option ScrubRow)). find (λ (r : Rank). slot_is_of c.args.domain c.args.cuid.now c.args.mid rs r.slot) c.marks_of-marks.result.now) (sym c.as_slice.ensures.value) ∙ sym c.in_err-mark.ensures in
    rw c.from_residual.ensures
    (subst (λ (v : ScrubsValue). v.placed ≡ without_mitigation c.args.domain c.args.cuid.now c.args.mid v.placed) c.self.view_is
    (none_found c.args.domain c.args.cuid.now c.args.mid c.self.inside.rows.items c.marks_of-marks.result.now (gathered c.self.inside.rows.items c.self.inside.turns.items)
    (are_stored c.self.inside.rows.items c.self.inside.turns.items c.self.invariant.0.tied) marked none))

pub turn_at-requires : goal.turn_at-requires
turn_at-requires c = subst (AreInOrder place_of_turn) (sym c.as_slice-2.ensures.value) c.self.invariant.0.in_order

pub returns-clause-some : goal.returns-clause-some
returns-clause-some c =
    let some : find (λ (r : Rank). slot_is_of c.args.domain c.args.cuid.now c.args.mid c.self.inside.rows.items r.slot) c.marks_of-marks.result.now ≡ Some c.in_ok-mark.mark =
    ap (λ (rs : List (Option ScrubRow)). find (λ (r : Rank). slot_is_of c.args.domain c.args.cuid.now c.args.mid rs r.slot) c.marks_of-marks.result.now) (sym c.as_slice.ensures.value) ∙ sym c.in_ok-mark.ensures in
    let here = c.turn_at.ensures ∙ ap (position (is_turn c.in_ok-mark.mark.place c.in_ok-mark.mark.slot)) c.as_slice-2.ensures.value in
    subst (λ (v : ScrubsValue). IfSome c.turn_at.result (GoesAt c.args.domain c.args.cuid.now c.args.mid v.placed)) c.self.view_is
    (found_at c.args.domain c.args.cuid.now c.args.mid c.self.inside.rows.items c.self.inside.turns.items c.marks_of-marks.result.now c.in_ok-mark.mark c.turn_at.result c.self.invariant.0.tied some here)

pub returns-clause-none : goal.returns-clause-none
returns-clause-none c =
    let marked : c.marks_of-marks.result.now ≡ marks_of c.args.domain c.args.mid (ranked (map mark_of (gathered c.self.inside.rows.items c.self.inside.turns.items))) =
    c.marks_of-marks.ensures ∙ ap (marks_of c.args.domain c.args.mid) c.self.invariant.0.marks_are.in_order in
    let some : find (λ (r : Rank). slot_is_of c.args.domain c.args.cuid.now c.args.mid c.self.inside.rows.items r.slot) c.marks_of-marks.result.now ≡ Some c.in_ok-mark.mark =
    ap (λ (rs : List (Option ScrubRow)). find (λ (r : Rank). slot_is_of c.args.domain c.args.cuid.now c.args.mid rs r.slot) c.marks_of-marks.result.now) (sym c.as_slice.ensures.value) ∙ sym c.in_ok-mark.ensures in
    let here = c.turn_at.ensures ∙ ap (position (is_turn c.in_ok-mark.mark.place c.in_ok-mark.mark.slot)) c.as_slice-2.ensures.value in
    found_anywhere c.args.domain c.args.cuid.now c.args.mid c.self.inside.rows.items c.self.inside.turns.items c.marks_of-marks.result.now c.in_ok-mark.mark c.turn_at.result _
    c.self.invariant.0.tied marked some here
