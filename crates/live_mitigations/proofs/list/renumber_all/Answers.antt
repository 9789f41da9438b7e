use Rattle.std.proofs.Common.{get_or, set, ap, sym, ◌∙◌, arith}
use Rattle.std.proofs.lemmas.List.Edits.{map_over_more}
use Rattle.live_mitigations.specs.declared.live_row.LiveRow.{LiveRow}
use Rattle.live_mitigations.specs.Numbers.{renumbered}
use Rattle.live_mitigations.specs.LiveRows.{mitigation_of, slots_in}
use Rattle.live_mitigations.proofs.Unions.{get_twice}
use Rattle.live_mitigations.proofs.LiveRows.{set_mitigation, set_slots, slots_within, slots_there}
use Rattle.live_mitigations.proofs.list.renumber_all.Goals as goal

pub loop-row-preserved : goal.loop-row-preserved
loop-row-preserved c =
    let rows = c.loop-row.rows in
    let i = c.loop-row.row-index in
    let row : LiveRow = get_or rows i c.row-item.result in
    record {
      mitigations =
          set_mitigation rows i c.row-item.result (record { mitigation = row.mitigation; slots = c.renumber.new.slots }) c.row-item.is (sym (ap mitigation_of c.row-item.is))
          ∙ c.loop-row.invariant.mitigations;
      slots =
          set_slots rows i (record { mitigation = row.mitigation; slots = c.renumber.new.slots })
          ∙ ap (set (slots_in rows) i) c.renumber.ensures
          ∙ map_over_more (renumbered c.args.keep.now) (slots_in c.args.rows.now) (slots_in rows) i row.slots (slots_within c.args.rows.now i c.loop-row-test.true)
          c.loop-row.invariant.slots (slots_there rows i row (omega (arith, c.loop-row-test.true, c.loop-row.auto.rows)) (get_twice rows i c.row-item.result));
    }
