use Rattle.std.proofs.Common.{set, ap, sym, ◌∙◌}
use Rattle.std.proofs.lemmas.List.Edits.{map_over_more}
use Rattle.filter_table.specs.TableRows.{row_set}
use Rattle.installed_filters.proofs.mitigations.set_each.Goals as goal

pub loop-row-preserved : goal.loop-row-preserved
loop-row-preserved c =
    ap (set c.loop-row.rows c.loop-row.row-index) (c.set_one.ensures ∙ ap (row_set c.args.active) (sym c.row-item.is))
    ∙ map_over_more (row_set c.args.active) _ _ _ _ c.loop-row-test.true c.loop-row.invariant c.row-item.is
