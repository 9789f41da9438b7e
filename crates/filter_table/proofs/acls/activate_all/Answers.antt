use Rattle.std.proofs.Common.{set, ap, sym, ◌∙◌}
use Rattle.std.proofs.lemmas.List.Edits.{map_over_more}
use Rattle.filter_table.specs.TableRows.{activated}
use Rattle.filter_table.proofs.acls.activate_all.Goals as goal

pub loop-list-preserved : goal.loop-list-preserved
loop-list-preserved c =
    ap (set c.loop-list.placed c.loop-list.list-index) (c.activate_one.ensures ∙ ap (activated c.args.domain c.args.cuid.now c.args.active) (sym c.list-item.is))
    ∙ map_over_more (activated c.args.domain c.args.cuid.now c.args.active) _ _ _ _ c.loop-list-test.true c.loop-list.invariant c.list-item.is
