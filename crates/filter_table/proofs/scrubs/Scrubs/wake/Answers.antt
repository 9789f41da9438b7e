use Rattle.std.proofs.Common.{map, ap, ◌∙◌}
use Rattle.filter_table.specs.TableRows.{ScrubsValue, woken}
use Rattle.filter_table.proofs.Slots.{scrubs_value}
use Rattle.filter_table.proofs.RowsInSlots.{wakes_rows}
use Rattle.filter_table.proofs.scrubs.Scrubs.wake.Goals as goal

pub invariant_of-self : goal.invariant_of-self
invariant_of-self c =
    let staying = wakes_rows c.args.domain c.args.cuid.now c.args.mid c.args.active c.self.inside.room c.self.inside.rows.items c.wake_marked.new.rows.items c.self.inside.turns.items
    c.self.inside.free.items c.self.inside.ranking c.self.inside.marks c.marks_of-marks.result.now c.self.invariant.0 c.marks_of-marks.ensures c.wake_marked.ensures in
    (staying.stand, c.self.invariant.1, c.self.invariant.2, c.self.invariant.3, c.self.invariant.4)

pub returns : goal.returns
returns c =
    let staying = wakes_rows c.args.domain c.args.cuid.now c.args.mid c.args.active c.self.inside.room c.self.inside.rows.items c.wake_marked.new.rows.items c.self.inside.turns.items
    c.self.inside.free.items c.self.inside.ranking c.self.inside.marks c.marks_of-marks.result.now c.self.invariant.0 c.marks_of-marks.ensures c.wake_marked.ensures in
    ap (scrubs_value c.self.inside.room) staying.placed_is
    ∙ ap (λ (v : ScrubsValue). scrubs_value v.room (map (woken c.args.domain c.args.cuid.now c.args.mid c.args.active) v.placed)) c.self.view_is
