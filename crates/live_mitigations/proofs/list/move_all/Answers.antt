use Rattle.std.proofs.Common.{set, ap, sym, ◌∙◌}
use Rattle.std.proofs.lemmas.List.Edits.{map_over_more}
use Rattle.live_mitigations.specs.LiveRows.{row_moved}
use Rattle.live_mitigations.proofs.list.move_all.Goals as goal

pub loop-row-preserved : goal.loop-row-preserved
loop-row-preserved c =
    ap (set c.loop-row.rows c.loop-row.row-index) (c.take.ensures ∙ ap (row_moved (record { entry = c.args.entry.now; slot = c.args.slot })) (sym c.row-item.is))
    ∙ map_over_more (row_moved (record { entry = c.args.entry.now; slot = c.args.slot })) _ _ _ _ c.loop-row-test.true c.loop-row.invariant c.row-item.is
