use Rattle.std.proofs.Common.{arith, ◌≡◌, ◌<◌, ◌≤◌, List, filter, length, ap, sym, subst, ◌∙◌}
use Rattle.std.specs.List.{AllByRecursion}
use Rattle.filter_table.specs.Sifting.{is_between}
use Rattle.filter_table.specs.declared.turn.Turn.{Turn}
use Rattle.filter_table.specs.TableRows.{ScrubsValue}
use Rattle.filter_table.specs.Laws.{AreInOrder}
use Rattle.filter_table.specs.Rows.{gathered, place_of_turn}
use Rattle.filter_table.specs.Blocks.{stays_outside}
use Rattle.filter_table.proofs.Gathered.{length-gathered}
use Rattle.filter_table.proofs.Slots.{scrubs_value}
use Rattle.filter_table.proofs.BlocksGone.{goes, each_slot, run_len}
use Rattle.filter_table.proofs.scrubs.Scrubs.keep_outside.Goals as goal

pub run_between-run-requires-clause-in_order : goal.run_between-run-requires-clause-in_order
run_between-run-requires-clause-in_order c = subst (AreInOrder place_of_turn) (sym c.as_slice.ensures.value) c.self.invariant.0.in_order

pub empty_run-requires-clause-within : goal.empty_run-requires-clause-within
empty_run-requires-clause-within c =
    let run = c.run_between-run.ensures ∙ ap (filter (λ (t : Turn). is_between c.args.low c.args.high t.place)) c.as_slice.ensures.value in
    subst (AllByRecursion (λ (t : Turn). t.slot < length c.self.inside.rows.items)) (sym run) (each_slot c.args.low c.args.high c.self.inside.rows.items c.self.inside.turns.items c.self.invariant.0.tied)

pub empty_run-requires-clause-room : goal.empty_run-requires-clause-room
empty_run-requires-clause-room c =
    let run = c.run_between-run.ensures ∙ ap (filter (λ (t : Turn). is_between c.args.low c.args.high t.place)) c.as_slice.ensures.value in
    omega (arith, ap length run, run_len c.args.low c.args.high c.self.inside.turns.items, length-gathered c.self.inside.rows.items c.self.inside.turns.items c.self.invariant.0.tied, c.self.invariant.0.slots_are.number, c.self.invariant.2)

pub invariant_of-self : goal.invariant_of-self
invariant_of-self c =
    let run = c.run_between-run.ensures ∙ ap (filter (λ (t : Turn). is_between c.args.low c.args.high t.place)) c.as_slice.ensures.value in
    let staying = goes c.args.low c.args.high c.self.inside.room c.self.inside.rows.items c.empty_run.new.rows.items c.self.inside.turns.items c.cut_between.new.turns.items c.run_between-run.result.now
    c.self.inside.free.items c.empty_run.new.free.items c.self.inside.ranking c.keep_outside.new.self c.self.inside.marks c.keep_outside-2.new.self c.self.invariant.0 run
    c.empty_run.ensures.rows c.empty_run.ensures.free c.cut_between.ensures.items c.keep_outside.ensures c.keep_outside-2.ensures in
    (staying.stand, omega arith, omega arith, c.self.invariant.3, c.self.invariant.4)

pub returns : goal.returns
returns c =
    let run = c.run_between-run.ensures ∙ ap (filter (λ (t : Turn). is_between c.args.low c.args.high t.place)) c.as_slice.ensures.value in
    let staying = goes c.args.low c.args.high c.self.inside.room c.self.inside.rows.items c.empty_run.new.rows.items c.self.inside.turns.items c.cut_between.new.turns.items c.run_between-run.result.now
    c.self.inside.free.items c.empty_run.new.free.items c.self.inside.ranking c.keep_outside.new.self c.self.inside.marks c.keep_outside-2.new.self c.self.invariant.0 run
    c.empty_run.ensures.rows c.empty_run.ensures.free c.cut_between.ensures.items c.keep_outside.ensures c.keep_outside-2.ensures in
    ap (scrubs_value c.self.inside.room) staying.placed_is ∙ ap (λ (v : ScrubsValue). scrubs_value v.room (filter (stays_outside c.args.low c.args.high) v.placed)) c.self.view_is
