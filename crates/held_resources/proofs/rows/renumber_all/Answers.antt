use Rattle.std.proofs.Common.{set, ap, sym, ◌∙◌}
use Rattle.std.proofs.lemmas.List.Edits.{map_over_more}
use Rattle.held_resources.specs.Rows.{renumbered}
use Rattle.held_resources.proofs.rows.renumber_all.Goals as goal

pub loop-row-preserved : goal.loop-row-preserved
loop-row-preserved c =
    ap (set c.loop-row.rows c.loop-row.row-index) (c.renumber_one.ensures ∙ ap (renumbered c.args.keep.now) (sym c.row-item.is))
    ∙ map_over_more (renumbered c.args.keep.now) _ _ _ _ c.loop-row-test.true c.loop-row.invariant c.row-item.is
