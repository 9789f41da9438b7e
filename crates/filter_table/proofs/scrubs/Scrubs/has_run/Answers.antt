use Rattle.std.proofs.Common.{◌≡◌, true, List, Option, filter, ap, sym, subst, ◌∙◌}
use Rattle.std.specs.List.{list_all}
use Rattle.acl_lists.specs.declared.rows.ScrubRow.{ScrubRow}
use Rattle.filter_table.specs.Sifting.{is_between}
use Rattle.filter_table.specs.declared.turn.Turn.{Turn}
use Rattle.filter_table.specs.TableRows.{ScrubsValue, without_mitigation}
use Rattle.filter_table.specs.Laws.{AreInOrder}
use Rattle.filter_table.specs.Rows.{gathered, place_of_turn, slot_is_of}
use Rattle.filter_table.specs.Blocks.{stays_outside}
use Rattle.filter_table.proofs.BlocksGone.{others_left}
use Rattle.filter_table.proofs.scrubs.Scrubs.has_run.Goals as goal

pub run_between-run-requires-clause-in_order : goal.run_between-run-requires-clause-in_order
run_between-run-requires-clause-in_order c = subst (AreInOrder place_of_turn) (sym c.as_slice.ensures.value) c.self.invariant.0.in_order

pub returns : goal.returns
returns c = λ is.
    let all : list_all (λ (t : Turn). slot_is_of c.args.domain c.args.cuid.now c.args.mid c.self.inside.rows.items t.slot) (filter (λ (t : Turn). is_between c.args.low c.args.high t.place) c.self.inside.turns.items) ≡ true =
    ap (λ (rs : List (Option ScrubRow)). list_all (λ (t : Turn). slot_is_of c.args.domain c.args.cuid.now c.args.mid rs t.slot) (filter (λ (t : Turn). is_between c.args.low c.args.high t.place) c.self.inside.turns.items)) (sym c.as_slice-2.ensures.value)
    ∙ ap (λ (ts : List Turn). list_all (λ (t : Turn). slot_is_of c.args.domain c.args.cuid.now c.args.mid c.as_slice-2.result.now t.slot) ts)
    (sym (c.run_between-run.ensures ∙ ap (filter (λ (t : Turn). is_between c.args.low c.args.high t.place)) c.as_slice.ensures.value))
    ∙ sym c.are_of.ensures ∙ is in
    subst (λ (v : ScrubsValue). without_mitigation c.args.domain c.args.cuid.now c.args.mid (filter (stays_outside c.args.low c.args.high) v.placed) ≡ without_mitigation c.args.domain c.args.cuid.now c.args.mid v.placed) c.self.view_is
    (others_left c.args.low c.args.high c.args.domain c.args.cuid.now c.args.mid c.self.inside.rows.items c.self.inside.turns.items c.self.invariant.0.tied all)
