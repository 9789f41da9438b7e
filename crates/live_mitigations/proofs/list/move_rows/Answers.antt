use Rattle.std.proofs.Common.{◌∙◌}
use Rattle.dots_history.specs.Filed.{Filed}
use Rattle.live_mitigations.proofs.LiveRows.{moved_mitigations, moved_slots}
use Rattle.live_mitigations.proofs.list.move_rows.Goals as goal

pub returns-clause-mitigations : goal.returns-clause-mitigations
returns-clause-mitigations c =
    let x : Filed = record { entry = c.args.entry.now; slot = c.args.slot } in
    c.retain_live.ensures.mitigations ∙ moved_mitigations x c.args.rows.now.items _ c.move_each.ensures.items

pub returns-clause-slots : goal.returns-clause-slots
returns-clause-slots c =
    let x : Filed = record { entry = c.args.entry.now; slot = c.args.slot } in
    c.retain_live.ensures.slots ∙ moved_slots x c.args.rows.now.items _ c.move_each.ensures.items
